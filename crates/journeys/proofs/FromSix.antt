-- What the relay sends that took a packet from the access network: to IPv4, where an ICMP error is one still, and ICMP errors back
-- where the packet is none.
use Rattle.std.proofs.Common.{◌≡◌, sym, ℕ, ◌⊎◌, inl, inr, Bool, true, false, cond, List, [], Option, Some, None, subst}
use Rattle.octets.specs.declared.address.Addr4.{Addr4}
use Rattle.octets.specs.declared.cause.Cause.{Cause}
use Rattle.octets.specs.declared.parcel.Parcel.{Parcel}
use Rattle.octets.proofs.Numerals.{either}
use Rattle.ip6_packet.specs.declared.head.Head6.{Head6}
use Rattle.ip6_packet.specs.Grammar.{payload_of6, Is6}
use Rattle.l4_headers.specs.declared.ports.Ports.{Ports}
use Rattle.l4_headers.specs.declared.ends.Ends.{Ends}
use Rattle.frag_table.specs.declared.answer.FragAnswer.{FragAnswer}
use Rattle.frag_table.specs.declared.answer.FragAnswer.TheVariants.{Noted, Known, Held, Released, Full}
use Rattle.icmp_xlat.specs.declared.passing.Passing.{Passing}
use Rattle.packets.specs.declared.packet6.Packet6.{Packet6}
use Rattle.packets.specs.declared.found.Found.{Found}
use Rattle.packets.specs.declared.found.Found.TheVariants.{Taken, Unreadable, Dropped}
use Rattle.packets.specs.Found.{IsFound6}
use Rattle.packets.specs.Packet6.{IsPacket6}
use Rattle.packets.specs.Asked.{flow_of6}
use Rattle.transit.specs.declared.passage.Passage.{Passage}
use Rattle.transit.specs.declared.passage.Passage.TheVariants.{Sent, Cut, Spent, TooBig}
use Rattle.transit.specs.Passage64.{IsPassage64}
use Rattle.hops.specs.declared.exit.Exit.TheVariants.{ToCore, ToItself, ToAccess}
use Rattle.hops.specs.declared.hop.Hop.{Hop}
use Rattle.hops.specs.declared.hop.Out.{Out}
use Rattle.hops.specs.declared.hop.Out.TheVariants.{Lan as OnLan, Access as OnAccess, Core as IntoCore, Turn as ToTurn}
use Rattle.hops.specs.Hop.{nothing, then, leaving, IsMade}
use Rattle.hops.specs.Reply.{IsReply6}
use Rattle.rule_book.specs.Owner.{covers_of}
use Rattle.relay_node.specs.Relay.{Relay, exit_of, source_addr, source_port, extracted}
use Rattle.relay_node.specs.FromAccess.{answering6, IsRefused6, IsPassed6, IsSent6, Becomes6, IsLaterFragment6, IsOne6, AreFreed6, ends64}
use Rattle.relay_node.specs.Hop.{IsAnswered, IsTaken6, IsHop6}
use Rattle.journeys.specs.Rank.{is_fault4, is_fault6, freed_by_told}
use Rattle.journeys.proofs.Faults.{is_error6}
use Rattle.journeys.proofs.Errors.{translated_fault4}
use Rattle.journeys.proofs.Replies.{reply_fault6, no_reply6}
use Rattle.journeys.proofs.Outs.{Each, Leaves, each_both, each_is, each_lost, each_refused, each_carried, each_freed, each_more}

-- a packet and what it frees: where each of what it may become is so, so is the hop
pub answered_outs : (P : Out → Type 0) (Becomes : Ports → Hop → Type 0) (Frees : Ports → List Parcel → Hop → Type 0) (ports : Ports) (told : Option FragAnswer) (hop : Hop)
    → ((ports : Ports) (hop : Hop) → Becomes ports hop → Each P hop.outs)
    → ((hop : Hop) → Frees ports (freed_by_told told) hop → Each P hop.outs)
    → IsAnswered Becomes Frees ports told hop → Each P hop.outs
answered_outs P Becomes Frees ports None hop own freed is = own ports hop is
answered_outs P Becomes Frees ports (Some Noted) hop own freed is = own ports hop is
answered_outs P Becomes Frees ports (Some (Known first)) hop own freed is = own first hop is
answered_outs P Becomes Frees ports (Some Held) hop own freed is = each_is P hop nothing is tt
answered_outs P Becomes Frees ports (Some (Released parcels)) hop own freed (one, others, one_is, others_are, is) =
    each_is P hop (then one others) is (each_both P one.outs others.outs (own ports one one_is) (freed others others_are))
answered_outs P Becomes Frees ports (Some Full) hop own freed is = each_lost P _ hop is

-- ---- from the access network

-- to IPv4, where an ICMP error is one still; or an ICMP error back where the packet is none
abbrev pub IsFromSix : Bool → Out → Type 0
IsFromSix fault (OnLan octets) = ⊥
IsFromSix fault (OnAccess octets) = (fault ≡ false) × (is_fault6 octets ≡ true)
IsFromSix fault (IntoCore octets) = Unit {0}
IsFromSix fault (ToTurn octets) = fault ≡ true → is_fault4 octets ≡ true

none_some : (xs : List ℕ) → ◌≡◌ {A = Option (List ℕ)} (Some xs) None → ⊥
none_some xs e = absurd (cc)

refused6 : (relay : Relay) (octets : List ℕ) (h : Head6) (cause : Cause) (hop : Hop) → Is6 h (payload_of6 h octets) octets → IsRefused6 relay octets h cause hop
    → Each (IsFromSix (is_fault6 octets)) hop.outs
refused6 relay octets h cause hop here refused =
    each_refused (IsFromSix (is_fault6 octets)) (IsReply6 (answering6 relay) h octets) ToAccess cause hop back refused
  where
    back : (xs : List ℕ) → IsReply6 (answering6 relay) h octets cause (Some xs) → (is_fault6 octets ≡ false) × (is_fault6 xs ≡ true)
    back xs is = (
      elim (either (is_fault6 octets)) [
        | inl fault ↦ absurd (none_some xs (no_reply6 (answering6 relay) h octets cause (Some xs) here fault is))
        | inr other ↦ other
      ],
      reply_fault6 (answering6 relay) h octets cause xs is,
    )

-- by the exit to IPv4
to_ipv4 : (fault : Bool) (octets : List ℕ) (inside : Bool) → (fault ≡ true → is_fault4 octets ≡ true)
    → IsFromSix fault (leaving (cond inside ToItself ToCore) octets)
to_ipv4 fault octets true still = still
to_ipv4 fault octets false still = tt

-- what passes is an ICMP error still
leaves64 : (to : Passing Addr4) (p : Packet6) (octets : List ℕ) (passage : Passage) (xs : List ℕ) → IsPacket6 true p octets
    → IsPassage64 to p (payload_of6 p.head octets) passage → Leaves passage xs → is_fault6 octets ≡ true → is_fault4 xs ≡ true
leaves64 to p octets (Sent sent) xs packet passes is fault =
    subst (λ (ys : List ℕ). is_fault4 ys ≡ true) (sym is)
    (translated_fault4 true to p.head (payload_of6 p.head octets) sent p.content packet.content (is_error6 p.head octets packet.is fault) passes.1)
leaves64 to p octets (Cut pieces) xs packet passes is fault = absurd passes
leaves64 to p octets Spent xs packet passes is fault = absurd is
leaves64 to p octets TooBig xs packet passes is fault = absurd is

passed6 : (relay : Relay) (p : Packet6) (octets : List ℕ) (ends : Ends Addr4) (hop : Hop) → IsPacket6 true p octets → IsPassed6 relay p octets ends hop
    → Each (IsFromSix (is_fault6 octets)) hop.outs
passed6 relay p octets ends hop packet (passage, passes, carried) =
    each_carried (IsFromSix (is_fault6 octets)) (IsRefused6 relay octets p.head) (exit_of relay.rules ends.dst) passage hop
    (λ cause refused. refused6 relay octets p.head cause hop packet.is refused)
    (λ xs leaves. to_ipv4 (is_fault6 octets) xs (covers_of relay.rules ends.dst.0)
    (leaves64 (record { mtus = relay.params.mtus; ends = ends; id = relay.id }) p octets passage xs packet passes leaves))
    carried

sent6 : (relay : Relay) (p : Packet6) (octets : List ℕ) (ports : Ports) (src : Option Addr4) (dst : Option ℕ) (hop : Hop) → IsPacket6 true p octets
    → IsSent6 (IsPassed6 relay p octets) ports src dst hop → Each (IsFromSix (is_fault6 octets)) hop.outs
sent6 relay p octets ports None dst hop packet is = each_lost (IsFromSix (is_fault6 octets)) _ hop is
sent6 relay p octets ports (Some src) None hop packet is = each_lost (IsFromSix (is_fault6 octets)) _ hop is
sent6 relay p octets ports (Some src) (Some dst) hop packet is =
    passed6 relay p octets (ends64 src (record { 0 = dst }) ports) hop packet is

becomes6 : (relay : Relay) (p : Packet6) (octets : List ℕ) (ports : Ports) (hop : Hop) → IsPacket6 true p octets → Becomes6 relay p octets ports hop
    → Each (IsFromSix (is_fault6 octets)) hop.outs
becomes6 relay p octets ports hop packet is =
    sent6 relay p octets ports (source_addr relay p.head.src (source_port (flow_of6 p.content).fault ports)) (extracted relay.dmr p.head.dst) hop packet is

more6 : (fault : Bool) (octets : List ℕ) → fault ≡ false → (out : Out) → IsFromSix (is_fault6 octets) out → IsFromSix fault out
more6 fault octets none (OnLan xs) is = is
more6 fault octets none (OnAccess xs) is = (none, is.1)
more6 fault octets none (IntoCore xs) is = tt
more6 fault octets none (ToTurn xs) is = λ yes. absurd (cc)

pub freed6 : (relay : Relay) (octets : List ℕ) (parcels : List Parcel) → (is_fault6 octets ≡ true → parcels ≡ []) → (ports : Ports) (hop : Hop)
    → AreFreed6 relay ports parcels hop → Each (IsFromSix (is_fault6 octets)) hop.outs
freed6 relay octets parcels frees ports hop are = by (either (is_fault6 octets))
  where
    by : (is_fault6 octets ≡ true) ⊎ (is_fault6 octets ≡ false) → Each (IsFromSix (is_fault6 octets)) hop.outs
    by (inl fault) =
        each_is (IsFromSix (is_fault6 octets)) hop nothing (subst (λ ps. AreFreed6 relay ports ps hop) (frees fault) are) tt
    by (inr none) =
        each_freed (IsFromSix (is_fault6 octets)) IsLaterFragment6 (IsOne6 relay ports) parcels hop
        (λ xs one becomes. each_more (IsFromSix (is_fault6 xs)) (IsFromSix (is_fault6 octets)) one.outs (more6 (is_fault6 octets) xs none)
        (becomes6 relay becomes.0 xs ports one becomes.1 becomes.2)) are

-- where it frees none to an ICMP error
pub from_six : (relay : Relay) (octets : List ℕ) (told : Option FragAnswer) (hop : Hop) → (is_fault6 octets ≡ true → freed_by_told told ≡ [])
    → IsHop6 relay octets told hop → Each (IsFromSix (is_fault6 octets)) hop.outs
from_six relay octets told hop frees (found, is, made) = by found is made
  where
    by : (found : Found Packet6 Head6) → IsFound6 true octets found → IsMade (IsTaken6 relay octets told) (IsRefused6 relay octets) found hop
        → Each (IsFromSix (is_fault6 octets)) hop.outs
    by (Taken p) packet taken =
        answered_outs (IsFromSix (is_fault6 octets)) (Becomes6 relay p octets) (AreFreed6 relay) (flow_of6 p.content).ports told hop
        (λ ports one is. becomes6 relay p octets ports one packet is)
        (λ others are. freed6 relay octets (freed_by_told told) frees (flow_of6 p.content).ports others are) taken
    by (Unreadable cause) is lost_is = each_lost (IsFromSix (is_fault6 octets)) cause hop lost_is
    by (Dropped cause h) is refused = refused6 relay octets h cause hop is.0.0 refused
