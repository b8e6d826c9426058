-- How far a packet may still go in the domain: each packet that a hop sends to a node has a smaller rank than the one that it
-- took, so no journey is deeper than the greatest rank. An ICMP error isn't answered, and is one still when it is translated.
use Rattle.std.specs.Prelude.{◌≡◌, ℕ, ◌+◌, ◌<◌, ◌==◌, ◌&&◌, ◌||◌, nat_lt, Bool, true, false, if◌then◌else◌, List, [], slice_get, Option, Some, None}
use Rattle.octets.specs.Field.{octet}
use Rattle.octets.specs.declared.parcel.Parcel.{Parcel}
use Rattle.ip4_packet.specs.Grammar.{header_len, total_len}
use Rattle.ip6_packet.specs.declared.chain.Chain.{Chain}
use Rattle.ip6_packet.specs.Grammar.{chain_of, payload_len}
use Rattle.rule_book.specs.Valid.{IsValid, FitBook}
use Rattle.frag_table.specs.declared.answer.FragAnswer.{FragAnswer}
use Rattle.frag_table.specs.Frag.{freed_by}
use Rattle.hops.specs.declared.hop.Hop.{Hop}
use Rattle.hops.specs.declared.hop.Out.{Out}
use Rattle.edge_node.specs.declared.way.Way.TheVariants.{Lan, Access, Turned}
use Rattle.relay_node.specs.Relay.{Relay as RelayOf}
use Rattle.mapt_setup.specs.declared.setup.Setup.{Setup}
use Rattle.journeys.specs.declared.stand.Stand.{Stand}
use Rattle.journeys.specs.declared.stand.Stand.TheVariants.{Edge, Relay}
use Rattle.journeys.specs.Waiting.{Waiting, onward}

-- the types of ICMP errors (RFC 1122, section 3.2.2), and of those of ICMPv6 (RFC 4443, section 2.1)
abbrev pub is_error_type4 : ℕ → Bool
is_error_type4 kind = kind == 3 || kind == 4 || kind == 5 || kind == 11 || kind == 12

abbrev pub is_error_type6 : ℕ → Bool
is_error_type6 kind = nat_lt kind 128

-- the octets are an ICMP error by the header and the type octet, if there is one
abbrev pub is_fault4 : List ℕ → Bool
is_fault4 octets =
    octet octets 9 == 1 && (nat_lt (header_len octets) (total_len octets) && is_error_type4 (octet octets (header_len octets)))

abbrev pub is_fault_behind : List ℕ → Option Chain → Bool
is_fault_behind octets None = false
is_fault_behind octets (Some chain) =
    chain.upper == 58 && (nat_lt chain.start (40 + payload_len octets) && is_error_type6 (octet octets chain.start))

abbrev pub is_fault6 : List ℕ → Bool
is_fault6 octets = is_fault_behind octets (chain_of octets)

-- the rank of octets where they stand
abbrev pub rank_at : Stand → List ℕ → ℕ
rank_at (Edge number Lan) octets = 7
rank_at (Edge number Access) octets = if is_fault6 octets then 1 else 4
rank_at (Edge number Turned) octets = 1
rank_at (Relay true) octets = if is_fault6 octets then 3 else 6
rank_at (Relay false) octets = if is_fault4 octets then 2 else 5

abbrev pub rank : Waiting → ℕ
rank w = rank_at w.stand w.octets

-- each packet that this hop of a packet sends to a node has a smaller rank
abbrev pub SendsLess : Setup → Waiting → Hop → Type 0
SendsLess setup taken hop =
    (at : ℕ) (out : Out) (next : Waiting) → slice_get hop.outs at ≡ Some out → onward setup taken.stand out ≡ Some next → rank next < rank taken

-- the fragments that a hop at the relay frees
abbrev pub freed_by_told : Option FragAnswer → List Parcel
freed_by_told None = []
freed_by_told (Some answer) = freed_by answer

-- the relay's rules are those of a book
abbrev pub IsBook : RelayOf → Type 0
IsBook relay = IsValid relay.rules relay.dmr × FitBook relay.rules relay.dmr
