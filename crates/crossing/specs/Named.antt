-- The named header changes: all in which a packet with its replaced address and port differs from the packet that comes
-- of it, once one node translated it to IPv6 and a second one back to IPv4 (RFC 7915). One field a row.
use Rattle.std.specs.Prelude.{◌≡◌, ◌≢◌, ℕ, ◌+◌, ◌*◌, ◌-◌, ◌/◌, ◌%◌, ◌^◌, ◌<◌, ◌≤◌, Bool, false, true, not, ◌&&◌, ◌||◌, nat_le, nat_lt, if◌then◌else◌, List, length, take, Option, Some, None, option_and_then}
use Rattle.std.specs.Option.{option_map}
use Rattle.octets.specs.Field.{octet, part}
use Rattle.octets.specs.declared.mtus.Mtus.{Mtus}
use Rattle.octets.specs.declared.proto.Proto.{Proto}
use Rattle.octets.specs.declared.proto.Proto.TheVariants.{Icmp}
use Rattle.ip4_packet.specs.declared.head.Head4.{Head4}
use Rattle.ip4_packet.specs.Written.{written4}
use Rattle.l4_headers.specs.declared.ports.Ports.{Ports}
use Rattle.l4_headers.specs.Transport.{l4_of, with_l4}
use Rattle.l4_headers.specs.PseudoHeader.{pseudo_header4, IsRightOver}
use Rattle.l4_headers.specs.Readdressed.{readdressed_sum}
use Rattle.icmp_messages.specs.declared.icmp4.Icmp4.{Icmp4}
use Rattle.icmp_messages.specs.declared.inner4.Inner4.{Inner4}
use Rattle.icmp_messages.specs.Message.{message4}
use Rattle.ip4_packet.specs.Fragment.{is_fragment}
use Rattle.xlat46.specs.Whole.{addresses_before as addresses4, lacks_sum}
use Rattle.icmp_messages.specs.declared.table.Row.{Row}
use Rattle.icmp_messages.specs.declared.table.Rest.{Rest}
use Rattle.icmp_messages.specs.declared.table.Rest.TheVariants.{Query, Zero, Protocol, Mtu, Pointer}
use Rattle.icmp_xlat.specs.Inner.{Change, inner_payload}
use Rattle.icmp_xlat.specs.Mtu.{mtu46, mtu64}
use Rattle.icmp_messages.specs.Table.{table46, table64, row_of, pointers46, pointers64, pointer_of}
use Rattle.packets.specs.declared.packet4.Content4.{Content4}
use Rattle.packets.specs.declared.packet4.Content4.TheVariants.{Segment, Later, Query as QueryOf, Error}
use Rattle.packets.specs.declared.packet4.Packet4.{Packet4}

-- a crossing: the packet and its payload as the first node took them, the packet with the addresses and ports that were
-- replaced, the MTUs of the domain, and the number of the record
pub record Crossing : Type 0 where
  pub taken : Packet4
  pub payload : List ℕ
  pub replaced : Packet4
  pub mtus : Mtus
  pub number : ℕ

-- a packet that is sent: its header, its payload, and its octets
pub record Sent : Type 0 where
  pub head : Head4
  pub payload : List ℕ
  pub octets : List ℕ

-- it came in one piece, or is the piece that begins so many octets behind the start of the payload
pub data Portion : Type 0 where
  uncut : Portion
  piece_at : ℕ → Portion

-- the record number for a packet that was whole and uncut, and else the identification that it came with
abbrev pub identification_after : Head4 → Portion → ℕ → ℕ
identification_after head uncut number = if is_fragment head then head.id else number % 2 ^ 16
identification_after head (piece_at at) number = head.id

-- "don't fragment" for a packet that was whole and uncut, where it has more than 1260 octets
abbrev pub dont_fragment_after : Head4 → Portion → ℕ → Bool
dont_fragment_after head uncut total = not (is_fragment head) && not (nat_le total 1260)
dont_fragment_after head (piece_at at) total = false

-- where the fragment stands in the whole payload of its packet, in units of 8 octets; more fragments follow it: what
-- the packet said of itself, and of a piece that other octets of the packet follow
abbrev pub offset : Head4 → Portion → ℕ
offset head uncut = head.offset
offset head (piece_at at) = head.offset + at / 8

abbrev pub more : Head4 → Portion → ℕ → ℕ → Bool
more head uncut len all = head.mf
more head (piece_at at) len all = nat_lt (at + len) all || head.mf

-- the octets of the payload that are sent
abbrev pub IsPart : Portion → List ℕ → List ℕ → Type 0
IsPart uncut whole payload = payload ≡ whole
IsPart (piece_at at) whole payload =
    (0 < length payload) × (at % 8 ≡ 0) × (at + length payload ≤ length whole) × (payload ≡ part whole at (length payload))

-- TCP and UDP: ports as they were replaced, and all other octets but the sum's as they were
pub record IsSegment (x : Crossing) (proto : Proto) (ports : Ports) (whole : List ℕ) : Type 0 where
  pub sum : ℕ
  pub rest : whole ≡ with_l4 proto x.payload ports sum
  -- the sum changes by the addresses and ports that were replaced; a UDP sum of 0 is written as 65535
  pub changed : lacks_sum proto (is_fragment x.taken.head) (l4_of proto x.payload).sum ≡ false
      → sum ≡ readdressed_sum proto (l4_of proto x.payload) (addresses4 x.taken.head) (addresses4 x.replaced.head) ports
  -- the missing sum of a whole UDP packet is the right one, which isn't 0
  pub missing : lacks_sum proto (is_fragment x.taken.head) (l4_of proto x.payload).sum ≡ true
      → (sum ≢ 0) × IsRightOver (pseudo_header4 x.replaced.head.src x.replaced.head.dst 17 (length whole)) whole 0

-- an ICMP message: its type and code by the first table followed by the second, and a right sum
pub record IsMessage (before : Icmp4) (new : Icmp4) (whole : List ℕ) : Type 0 where
  pub there : Row
  pub back : Row
  pub first : row_of table46 before.kind before.code ≡ Some there
  pub second : row_of table64 there.to_kind there.to_code ≡ Some back
  pub kind : new.kind ≡ back.to_kind
  pub code : new.code ≡ back.to_code
  pub sum : whole ≡ message4 new

-- a query: its identifier as it was replaced, its sequence and data as they were
pub record IsQueryAfter (m : Icmp4) (whole : List ℕ) : Type 0 where
  pub new : Icmp4
  pub message : IsMessage m new whole
  pub rest : new.rest ≡ m.rest
  pub body : new.body ≡ m.body

-- The four octets behind the sum of an error: the pointer by the first table of pointers followed by the second, the MTU
-- by the formula for IPv6 followed by that for IPv4, about an embedded packet of this total, and all else 0.
abbrev pub rest_after : Mtus → ℕ → ℕ → Rest → Option ℕ
rest_after mtus total rest Query = None
rest_after mtus total rest Zero = Some 0
rest_after mtus total rest Protocol = Some 0
rest_after mtus total rest Mtu = Some (mtu64 mtus (mtu46 mtus total (rest % 2 ^ 16)))
rest_after mtus total rest Pointer =
    option_map (λ four. four * 2 ^ 24) (option_and_then (λ six. pointer_of pointers64 six) (pointer_of pointers46 (rest / 2 ^ 24)))

-- The embedded header: no options, a total of 20 more than its declared payload, identification 0 unless it is a
-- fragment, "don't fragment" by the rule above. Its TTL is kept.
abbrev pub inner_total : Head4 → ℕ
inner_total head = 20 + (head.total - head.head_len)

abbrev pub inner_head : Head4 → Head4
inner_head head = record head {
  head_len = 20;
  total = inner_total head;
  id = if is_fragment head then head.id else 0;
  df = not (is_fragment head) && not (nat_le (inner_total head) 1260);
  routed = false;
}

-- What changes in the embedded payload: the addresses, ports and identifiers that were replaced, by which sums change
-- where their two octets stand. The sum of an echo covers no address.
abbrev pub inner_change : Inner4 → Inner4 → Proto → Change
inner_change taken new Icmp = record { before = 0; after = 0; ports = new.ports; kind = octet taken.payload 0 }
inner_change taken new _ =
    record { before = addresses4 taken.head; after = addresses4 new.head; ports = new.ports; kind = 0 }

-- the octets of an embedded payload that fit: of the 1280 of an ICMPv6 error, 40 are its header, 8 stand in front of the
-- embedded packet, and 40 are that one's header, with 8 more for a fragment
abbrev pub inner_room : Head4 → ℕ
inner_room head = 1280 - (40 + 8 + (if is_fragment head then 48 else 40))

-- the embedded packet, with a right header sum and no reserved flag
abbrev pub inner_after : Inner4 → Inner4 → List ℕ
inner_after taken new =
    written4 (inner_head new.head) (take (inner_room new.head) (inner_payload new.proto new.payload (inner_change taken new new.proto)))

-- an error: what its table and formula give, and the embedded packet, cut to the octets that fit; its extension is cut off,
-- and so are octets behind the embedded packet's total
pub record IsErrorAfter (mtus : Mtus) (m : Icmp4) (taken new : Inner4) (whole : List ℕ) : Type 0 where
  pub told : Icmp4
  pub message : IsMessage m told whole
  pub rest : rest_after mtus taken.head.total m.rest message.there.rest ≡ Some told.rest
  pub body : told.body ≡ inner_after taken new

-- the payload that comes of what was taken and of what was replaced in it; both are of one kind
abbrev pub IsPayload : Crossing → Content4 → Content4 → List ℕ → Type 0
IsPayload x taken (Segment proto l4) whole = IsSegment x proto l4.ports whole
IsPayload x taken (Later proto) whole = whole ≡ x.payload
IsPayload x taken (QueryOf m row) whole = IsQueryAfter m whole
IsPayload x (Error _ _ taken) (Error m row new) whole = IsErrorAfter x.mtus m taken new whole
IsPayload x _ (Error m row new) whole = ⊥

-- the packet that comes of a crossing, where all of the payload, cut or not, is this one
pub record Named (x : Crossing) (portion : Portion) (whole : List ℕ) (r : Sent) : Type 0 where
  -- options, header length, total and header sum: none, 20, 20 plus the payload, and right; the reserved flag is 0, and
  -- nothing stands behind the total
  pub octets : r.octets ≡ written4 r.head r.payload
  pub routed : r.head.routed ≡ false
  pub head_len : r.head.head_len ≡ 20
  pub total : r.head.total ≡ 20 + length r.payload
  -- TTL: 2 less
  pub ttl : r.head.ttl + 2 ≡ x.replaced.head.ttl
  -- identification and "don't fragment"
  pub id : r.head.id ≡ identification_after x.replaced.head portion x.number
  pub df : r.head.df ≡ dont_fragment_after x.replaced.head portion r.head.total
  -- sums, ICMP messages, and what they embed
  pub payload : IsPayload x x.taken.content x.replaced.content whole
  -- of a cut packet one piece
  pub part : IsPart portion whole r.payload
  pub offset : r.head.offset ≡ offset x.replaced.head portion
  pub more : r.head.mf ≡ more x.replaced.head portion (length r.payload) (length whole)
  -- all else is as it was
  pub tos : r.head.tos ≡ x.replaced.head.tos
  pub proto : r.head.proto ≡ x.replaced.head.proto
  pub src : r.head.src ≡ x.replaced.head.src
  pub dst : r.head.dst ≡ x.replaced.head.dst
