-- The relay has one hop for a packet and what is told of it, and asks or drops in one way.
use Rattle.std.proofs.Common.{◌≡◌, ℕ, List, true, false, Some, None, sym, ◌∙◌, subst}
use Rattle.std.specs.Prelude.{Option, Bool}
use Rattle.octets.specs.declared.address.Addr4.{Addr4}
use Rattle.octets.specs.declared.address.Addr6.{Addr6}
use Rattle.octets.specs.declared.cause.Cause.{Cause}
use Rattle.octets.specs.declared.parcel.Parcel.{Parcel}
use Rattle.ip4_packet.specs.declared.head.Head4.{Head4}
use Rattle.ip4_packet.specs.Grammar.{payload_of4}
use Rattle.ip6_packet.specs.declared.head.Head6.{Head6}
use Rattle.ip6_packet.specs.Grammar.{payload_of6}
use Rattle.l4_headers.specs.declared.ports.Ports.{Ports}
use Rattle.frag_table.specs.declared.ask.FragAsk.{FragAsk}
use Rattle.frag_table.specs.declared.answer.FragAnswer.{FragAnswer}
use Rattle.frag_table.specs.declared.answer.FragAnswer.TheVariants.{Noted, Known, Held, Released, Full}
use Rattle.l4_headers.specs.declared.ends.Ends.{Ends}
use Rattle.hops.specs.declared.hop.Hop.{Hop}
use Rattle.packets.specs.declared.packet4.Packet4.{Packet4}
use Rattle.packets.specs.declared.packet6.Packet6.{Packet6}
use Rattle.packets.specs.Asked.{flow_of4, flow_of6, extent_of4, extent_of6, key_of4, key_of6}
use Rattle.packets.specs.Behind4.{IsDropped4}
use Rattle.packets.specs.Behind6.{IsDropped6}
use Rattle.packets.specs.OneOf.{IsOneAtMost, IsTakenOrDropped}
use Rattle.packets.specs.Packet4.{IsPacket4}
use Rattle.packets.specs.Packet6.{IsPacket6}
use Rattle.packets.proofs.Taken4.{same_packet4}
use Rattle.packets.proofs.Taken6.{same_packet6}
use Rattle.packets.proofs.TakenOnce.{taken4, taken6, made_of}
use Rattle.hops.specs.declared.exit.Exit.{Exit}
use Rattle.hops.specs.declared.exit.Exit.TheVariants.{ToAccess}
use Rattle.transit.specs.declared.passage.Passage.{Passage}
use Rattle.packets.specs.declared.found.Found.{Found}
use Rattle.packets.proofs.FoundOnce.{found4, found6}
use Rattle.hops.specs.Hop.{then, IsCarried, IsMade}
use Rattle.icmp_xlat.specs.declared.passing.Passing.{Passing}
use Rattle.hops.specs.Reply.{notice4, notice6, IsReply4, IsReply6}
use Rattle.transit.proofs.OneWay.{one_passage46, one_passage64}
use Rattle.hops.proofs.OneWay.{one_answer4, one_answer6, one_refused, one_carried, all_freed, one_made}
use Rattle.relay_node.specs.Asked.{from_access, from_ipv4, asked, AsksFrom, IsDroppedFrom}
use Rattle.relay_node.specs.Relay.{Relay, extracted, source_port, source_addr, destination_port, own_of, exit_of}
use Rattle.relay_node.specs.FromAccess.{answering6, IsRefused6, ends64, IsPassed6, IsSent6, Becomes6, IsLaterFragment6, IsOne6, AreFreed6}
use Rattle.relay_node.specs.FromIpv4.{answering4, IsRefused4, ends46, IsPassed4, IsSent4, Becomes4, IsLaterFragment4, IsOne4, AreFreed4}
use Rattle.relay_node.specs.Hop.{IsAnswered, IsTaken4, IsTaken6, IsHop6, IsHop4, IsRelayHop}

-- what is asked is one
pub one_ask : (six : Bool) (octets : List ℕ) → IsTakenOrDropped (λ (ask : Option FragAsk). AsksFrom six octets ask) (λ (cause : Cause). IsDroppedFrom six cause octets)
one_ask true octets = made_of (λ (p : Packet6). IsPacket6 true p octets) (λ (cause : Cause). IsDropped6 true cause octets)
    (λ (p : Packet6). asked (extent_of6 p.head) (key_of6 from_access p.head) (flow_of6 p.content).ports octets) (taken6 true octets)
one_ask false octets = made_of (λ (p : Packet4). IsPacket4 p octets) (λ (cause : Cause). IsDropped4 cause octets)
    (λ (p : Packet4). asked (extent_of4 p.head) (key_of4 from_ipv4 p.head) (flow_of4 p.content).ports octets) (taken4 octets)

-- the hop of a dropped packet is one
refused4 : (relay : Relay) (octets : List ℕ) (h : Head4) (cause : Cause) → IsOneAtMost (IsRefused4 relay octets h cause)
refused4 relay octets h cause = one_refused (IsReply4 (answering4 relay h) h octets) (exit_of relay.rules h.src) cause
    (one_answer4 h octets (answering4 relay h) (notice4 relay.params.mtus cause))

refused6 : (relay : Relay) (octets : List ℕ) (h : Head6) (cause : Cause) → IsOneAtMost (IsRefused6 relay octets h cause)
refused6 relay octets h cause = one_refused (IsReply6 (answering6 relay) h octets) ToAccess cause
    (one_answer6 h octets (answering6 relay) (notice6 relay.params.mtus h.left cause))

carried_once : (Loses : Cause → Hop → Type 0) (exit : Exit) (x y : Passage) → x ≡ y → ((cause : Cause) → IsOneAtMost (Loses cause))
    → (one other : Hop) → IsCarried Loses exit x one → IsCarried Loses exit y other → one ≡ other
carried_once Loses exit x y same drop one other a b =
    one_carried Loses exit y drop one other (subst (λ (p : Passage). IsCarried Loses exit p one) same a) b

passed4 : (relay : Relay) (p : Packet4) (octets : List ℕ) (ends : Ends Addr6) → IsOneAtMost (IsPassed4 relay p octets ends)
passed4 relay p octets ends one other (x, passes, is) (y, leaves, also) =
    carried_once (IsRefused4 relay octets p.head) ToAccess x y (one_passage46 relay.params.mtus p (payload_of4 p.head octets) ends x y passes leaves)
    (refused4 relay octets p.head) one other is also

passed6 : (relay : Relay) (p : Packet6) (octets : List ℕ) (ends : Ends Addr4) → IsOneAtMost (IsPassed6 relay p octets ends)
passed6 relay p octets ends one other (x, passes, is) (y, leaves, also) =
    let way : Passing Addr4 = record { mtus = relay.params.mtus; ends = ends; id = relay.id } in
    carried_once (IsRefused6 relay octets p.head) (exit_of relay.rules ends.dst) x y (one_passage64 way p (payload_of6 p.head octets) x y passes leaves)
    (refused6 relay octets p.head) one other is also

sent4 : (Passed : Addr6 → Hop → Type 0) (own : Option ℕ) → ((own : Addr6) → IsOneAtMost (Passed own)) → IsOneAtMost (IsSent4 Passed own)
sent4 Passed None pass one other a b = a ∙ sym b
sent4 Passed (Some own) pass one other a b = pass (record { 0 = own }) one other a b

sent6 : (Passed : Ends Addr4 → Hop → Type 0) (ports : Ports) (src : Option Addr4) (dst : Option ℕ) → ((ends : Ends Addr4) → IsOneAtMost (Passed ends))
    → IsOneAtMost (IsSent6 Passed ports src dst)
sent6 Passed ports None dst pass one other a b = a ∙ sym b
sent6 Passed ports (Some src) None pass one other a b = a ∙ sym b
sent6 Passed ports (Some src) (Some dst) pass one other a b = pass (ends64 src (record { 0 = dst }) ports) one other a b

becomes4 : (relay : Relay) (p : Packet4) (octets : List ℕ) (ports : Ports) → IsOneAtMost (Becomes4 relay p octets ports)
becomes4 relay p octets ports =
    sent4 (λ own. IsPassed4 relay p octets (ends46 relay p own ports)) (own_of relay p.head.dst (destination_port (flow_of4 p.content).fault ports))
    (λ own. passed4 relay p octets (ends46 relay p own ports))

becomes6 : (relay : Relay) (p : Packet6) (octets : List ℕ) (ports : Ports) → IsOneAtMost (Becomes6 relay p octets ports)
becomes6 relay p octets ports =
    sent6 (IsPassed6 relay p octets) ports (source_addr relay p.head.src (source_port (flow_of6 p.content).fault ports)) (extracted relay.dmr p.head.dst)
    (passed6 relay p octets)

-- a freed fragment becomes one thing
one4 : (relay : Relay) (ports : Ports) (octets : List ℕ) → IsOneAtMost (IsOne4 relay ports octets)
one4 relay ports octets one other (p, is, a) (q, has, b) =
    becomes4 relay q octets ports one other (subst (λ (x : Packet4). Becomes4 relay x octets ports one) (same_packet4 p q octets is has) a) b

one6 : (relay : Relay) (ports : Ports) (octets : List ℕ) → IsOneAtMost (IsOne6 relay ports octets)
one6 relay ports octets one other (p, is, a) (q, has, b) =
    becomes6 relay q octets ports one other (subst (λ (x : Packet6). Becomes6 relay x octets ports one) (same_packet6 true p q octets is has) a) b

-- what is told of a packet leaves one hop
answered : (Becomes : Ports → Hop → Type 0) (Frees : Ports → List Parcel → Hop → Type 0) (ports : Ports) (told : Option FragAnswer)
    → ((p : Ports) → IsOneAtMost (Becomes p)) → ((p : Ports) (parcels : List Parcel) → IsOneAtMost (Frees p parcels)) → IsOneAtMost (IsAnswered Becomes Frees ports told)
answered Becomes Frees ports None becomes frees one other a b = becomes ports one other a b
answered Becomes Frees ports (Some Noted) becomes frees one other a b = becomes ports one other a b
answered Becomes Frees ports (Some (Known first)) becomes frees one other a b = becomes first one other a b
answered Becomes Frees ports (Some Held) becomes frees one other a b = a ∙ sym b
answered Becomes Frees ports (Some (Released parcels)) becomes frees one other (x, xs, own, freed, is) (y, ys, its, those, also) =
    let same : x ≡ y = becomes ports x y own its in
    let rest : xs ≡ ys = frees ports parcels xs ys freed those in
    is ∙ (λ i. then (same i) (rest i)) ∙ sym also
answered Becomes Frees ports (Some Full) becomes frees one other a b = a ∙ sym b

freed4 : (relay : Relay) (ports : Ports) (parcels : List Parcel) → IsOneAtMost (AreFreed4 relay ports parcels)
freed4 relay ports parcels one other a b =
    all_freed IsLaterFragment4 (IsOne4 relay ports) parcels (one4 relay ports) one other a b

freed6 : (relay : Relay) (ports : Ports) (parcels : List Parcel) → IsOneAtMost (AreFreed6 relay ports parcels)
freed6 relay ports parcels one other a b =
    all_freed IsLaterFragment6 (IsOne6 relay ports) parcels (one6 relay ports) one other a b

taken4_once : (relay : Relay) (octets : List ℕ) (told : Option FragAnswer) (p : Packet4) → IsOneAtMost (IsTaken4 relay octets told p)
taken4_once relay octets told p = answered (Becomes4 relay p octets) (AreFreed4 relay) (flow_of4 p.content).ports told (becomes4 relay p octets) (freed4 relay)

taken6_once : (relay : Relay) (octets : List ℕ) (told : Option FragAnswer) (p : Packet6) → IsOneAtMost (IsTaken6 relay octets told p)
taken6_once relay octets told p = answered (Becomes6 relay p octets) (AreFreed6 relay) (flow_of6 p.content).ports told (becomes6 relay p octets) (freed6 relay)

hop4 : (relay : Relay) (octets : List ℕ) (told : Option FragAnswer) → IsOneAtMost (IsHop4 relay octets told)
hop4 relay octets told one other (x, is, a) (y, has, b) =
    one_made (IsTaken4 relay octets told) (IsRefused4 relay octets) y (taken4_once relay octets told) (refused4 relay octets) one other
    (subst (λ (found : Found Packet4 Head4). IsMade (IsTaken4 relay octets told) (IsRefused4 relay octets) found one) (found4 octets x y is has) a) b

hop6 : (relay : Relay) (octets : List ℕ) (told : Option FragAnswer) → IsOneAtMost (IsHop6 relay octets told)
hop6 relay octets told one other (x, is, a) (y, has, b) =
    one_made (IsTaken6 relay octets told) (IsRefused6 relay octets) y (taken6_once relay octets told) (refused6 relay octets) one other
    (subst (λ (found : Found Packet6 Head6). IsMade (IsTaken6 relay octets told) (IsRefused6 relay octets) found one) (found6 true octets x y is has) a) b

-- the hop is one
pub one_hop : (relay : Relay) (six : Bool) (octets : List ℕ) (told : Option FragAnswer) → IsOneAtMost (IsRelayHop relay six octets told)
one_hop relay true octets told one other a b = hop6 relay octets told one other a b
one_hop relay false octets told one other a b = hop4 relay octets told one other a b
