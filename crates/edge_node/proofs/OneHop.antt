-- An edge has one hop for a packet and an answer, and asks or drops in one way.
use Rattle.std.proofs.Common.{◌≡◌, ℕ, List, false, inl, inr, sym, ◌∙◌, subst, arith}
use Rattle.octets.specs.declared.address.Addr4.{Addr4}
use Rattle.octets.specs.declared.address.Addr6.{Addr6}
use Rattle.octets.specs.declared.cause.Cause.{Cause}
use Rattle.octets.specs.declared.cause.Cause.TheVariants.{TtlSpent}
use Rattle.ip4_packet.specs.declared.head.Head4.{Head4}
use Rattle.ip4_packet.specs.Grammar.{payload_of4, Is4}
use Rattle.ip6_packet.specs.declared.head.Head6.{Head6}
use Rattle.ip6_packet.specs.Grammar.{payload_of6, Is6}
use Rattle.l4_headers.specs.declared.ends.Ends.{Ends}
use Rattle.turned_packets.specs.Turned.{turned_out}
use Rattle.nat_model.specs.declared.answer.Answer.{Answer}
use Rattle.nat_model.specs.declared.answer.Answer.TheVariants.{Out, Turn, In, Kept, Held, Refused}
use Rattle.nat_model.specs.declared.ask.Ask.{Ask}
use Rattle.nat_model.specs.Waiting.{freed_of}
use Rattle.hops.specs.declared.hop.Hop.{Hop}
use Rattle.packets.specs.declared.packet4.Packet4.{Packet4}
use Rattle.packets.specs.declared.packet6.Packet6.{Packet6}
use Rattle.packets.specs.Asked.{flow_of4, flow_of6}
use Rattle.packets.specs.OneOf.{IsOneAtMost, IsTakenOrDropped}
use Rattle.packets.specs.Packet4.{IsPacket4}
use Rattle.packets.specs.Packet6.{IsPacket6}
use Rattle.packets.proofs.Header4.{same_head4}
use Rattle.packets.proofs.Header6.{same_head6}
use Rattle.packets.proofs.Taken4.{never_both4, same_packet4}
use Rattle.packets.proofs.Taken6.{never_both6, same_packet6}
use Rattle.packets.proofs.TakenOnce.{taken4, taken6, made_of}
use Rattle.hops.specs.declared.exit.Exit.{Exit}
use Rattle.hops.specs.declared.exit.Exit.TheVariants.{ToLan, ToAccess}
use Rattle.transit.specs.declared.passage.Passage.{Passage}
use Rattle.hops.specs.Hop.{then, IsCarried}
use Rattle.icmp_xlat.specs.declared.passing.Passing.{Passing}
use Rattle.hops.specs.Reply.{notice4, notice6, IsReply4, IsReply6}
use Rattle.transit.proofs.OneWay.{one_passage46, one_passage64}
use Rattle.hops.proofs.OneWay.{one_answer4, one_answer6, one_refused, dropped_once, silent4, silent6, one_carried, all_freed}
use Rattle.edge_node.specs.declared.way.Way.{Way}
use Rattle.edge_node.specs.declared.way.Way.TheVariants.{Lan, Access, Turned}
use Rattle.edge_node.specs.Asked.{outward, inward, inward_turned, IsAsk, IsDroppedAt}
use Rattle.edge_node.specs.Ends.{ends_out, ends_in}
use Rattle.edge_node.specs.Hop.{lan_answering, access_answering, IsRefusedToLan, IsRefusedToAccess, Drops, GoesOut, Turns, ComesIn, FromLan, FromAccess, FromItself, Becomes, IsLaterAt, Own, IsEdgeHop}
use Rattle.edge_node.specs.declared.way.Node.{Node}

-- what is asked is one
pub one_ask : (way : Way) (octets : List ℕ) → IsTakenOrDropped (λ (ask : Ask). IsAsk way octets ask) (λ (cause : Cause). IsDroppedAt way cause octets)
one_ask Lan octets = made_of (λ (p : Packet4). IsPacket4 p octets) (λ (cause : Cause). IsDroppedAt Lan cause octets) (λ (p : Packet4). outward p (flow_of4 p.content) octets) (taken4 octets)
one_ask Access octets = made_of (λ (p : Packet6). IsPacket6 false p octets) (λ (cause : Cause). IsDroppedAt Access cause octets) (λ (p : Packet6). inward p (flow_of6 p.content) octets) (taken6 false octets)
one_ask Turned octets = made_of (λ (p : Packet4). IsPacket4 p octets) (λ (cause : Cause). IsDroppedAt Lan cause octets) (λ (p : Packet4). inward_turned p (flow_of4 p.content) octets) (taken4 octets)

one_drop : (node : Node) (way : Way) (octets : List ℕ) (cause : Cause) → IsOneAtMost (Drops node way octets cause)
one_drop node Lan octets cause = dropped_once (λ (h : Head4). Is4 h (payload_of4 h octets) octets) (IsRefusedToLan node octets) cause
    (λ h g is has. same_head4 h g octets is has)
    (λ h. one_refused (IsReply4 (lan_answering node) h octets) ToLan cause (one_answer4 h octets (lan_answering node) (notice4 node.params.mtus cause)))
    (λ h hop none refused. silent4 (lan_answering node) h octets cause hop none refused)
one_drop node Access octets cause = dropped_once (λ (h : Head6). Is6 h (payload_of6 h octets) octets) (IsRefusedToAccess node octets) cause
    (λ h g is has. same_head6 h g octets is has)
    (λ h. one_refused (IsReply6 (access_answering node h) h octets) ToAccess cause (one_answer6 h octets (access_answering node h) (notice6 node.params.mtus h.left cause)))
    (λ h hop none refused. silent6 (access_answering node h) h octets cause hop none refused)
one_drop node Turned octets cause = λ one other a b. a ∙ sym b

-- what becomes of one packet is one
carried_once : (Loses : Cause → Hop → Type 0) (exit : Exit) (x y : Passage) → x ≡ y → ((cause : Cause) → IsOneAtMost (Loses cause))
    → (one other : Hop) → IsCarried Loses exit x one → IsCarried Loses exit y other → one ≡ other
carried_once Loses exit x y same drop one other a b =
    one_carried Loses exit y drop one other (subst (λ (p : Passage). IsCarried Loses exit p one) same a) b

goes_out : (node : Node) (octets : List ℕ) (ends : Ends Addr6) (p : Packet4) → IsOneAtMost (GoesOut node octets ends p)
goes_out node octets ends p one other (x, passes, is) (y, leaves, also) =
    let same = one_passage46 node.params.mtus p (payload_of4 p.head octets) ends x y passes leaves in
    carried_once (Drops node Lan octets) ToAccess x y same (one_drop node Lan octets) one other is also

turns : (node : Node) (octets : List ℕ) (p : Packet4) (turned : List ℕ) → IsOneAtMost (Turns node octets p turned)
turns node octets p turned one other (inl a) (inl b) = one_drop node Lan octets TtlSpent one other a.1 b.1
turns node octets p turned one other (inl a) (inr b) = absurd (omega (arith, a.0, b.0))
turns node octets p turned one other (inr a) (inl b) = absurd (omega (arith, a.0, b.0))
turns node octets p turned one other (inr a) (inr b) = a.1 ∙ sym b.1

comes_in : (node : Node) (octets : List ℕ) (ends : Ends Addr4) (p : Packet6) → IsOneAtMost (ComesIn node octets ends p)
comes_in node octets ends p one other (x, passes, is) (y, leaves, also) =
    let way : Passing Addr4 = record { mtus = node.params.mtus; ends = ends; id = node.id } in
    let same = one_passage64 way p (payload_of6 p.head octets) x y passes leaves in
    carried_once (Drops node Access octets) ToLan x y same (one_drop node Access octets) one other is also

from_lan : (node : Node) (answer : Answer) (octets : List ℕ) (p : Packet4) → IsOneAtMost (FromLan node answer octets p)
from_lan node (Out from port src6 dst6 freed) octets p one other a b = goes_out node octets (ends_out (flow_of4 p.content) port src6 dst6) p one other a b
from_lan node (Turn from port freed) octets p one other a b = turns node octets p (turned_out from port p octets) one other a b
from_lan node (In to port from peer freed) octets p one other a b = absurd a
from_lan node (Kept port until) octets p one other a b = absurd a
from_lan node Held octets p one other a b = a ∙ sym b
from_lan node (Refused cause freed) octets p one other a b = one_drop node Lan octets cause one other a b

from_access : (node : Node) (answer : Answer) (octets : List ℕ) (p : Packet6) → IsOneAtMost (FromAccess node answer octets p)
from_access node (Out from port src6 dst6 freed) octets p one other a b = absurd a
from_access node (Turn from port freed) octets p one other a b = absurd a
from_access node (In to port from peer freed) octets p one other a b = comes_in node octets (ends_in (flow_of6 p.content) to port from peer) p one other a b
from_access node (Kept port until) octets p one other a b = absurd a
from_access node Held octets p one other a b = a ∙ sym b
from_access node (Refused cause freed) octets p one other a b = one_drop node Access octets cause one other a b

from_itself : (answer : Answer) (octets : List ℕ) (p : Packet4) → IsOneAtMost (FromItself answer octets p)
from_itself (Out from port src6 dst6 freed) octets p one other a b = absurd a
from_itself (Turn from port freed) octets p one other a b = absurd a
from_itself (In to port from peer freed) octets p one other a b = a ∙ sym b
from_itself (Kept port until) octets p one other a b = absurd a
from_itself Held octets p one other a b = a ∙ sym b
from_itself (Refused cause freed) octets p one other a b = a ∙ sym b

becomes : (node : Node) (way : Way) (answer : Answer) (octets : List ℕ) → IsOneAtMost (Becomes node way answer octets)
becomes node Lan answer octets one other (p, is, a) (q, has, b) =
    from_lan node answer octets q one other (subst (λ (x : Packet4). FromLan node answer octets x one) (same_packet4 p q octets is has) a) b
becomes node Access answer octets one other (p, is, a) (q, has, b) =
    from_access node answer octets q one other (subst (λ (x : Packet6). FromAccess node answer octets x one) (same_packet6 false p q octets is has) a) b
becomes node Turned answer octets one other (p, is, a) (q, has, b) =
    from_itself answer octets q one other (subst (λ (x : Packet4). FromItself answer octets x one) (same_packet4 p q octets is has) a) b

-- a packet that becomes something isn't dropped before anything is asked
no_drop : (node : Node) (way : Way) (answer : Answer) (octets : List ℕ) (hop : Hop) (cause : Cause) → Becomes node way answer octets hop → IsDroppedAt way cause octets → ⊥
no_drop node Lan answer octets hop cause (p, is, a) dropped = never_both4 p cause octets is dropped
no_drop node Access answer octets hop cause (p, is, a) dropped = never_both6 false p cause octets is dropped
no_drop node Turned answer octets hop cause (p, is, a) dropped = never_both4 p cause octets is dropped

own_once : (node : Node) (way : Way) (answer : Answer) (octets : List ℕ) → IsOneAtMost (Own node way answer octets)
own_once node way answer octets one other (inl a) (inl b) = becomes node way answer octets one other a b
own_once node way answer octets one other (inl a) (inr (cause, dropped, refused, b)) = absurd (no_drop node way answer octets one cause a dropped)
own_once node way answer octets one other (inr (cause, dropped, refused, a)) (inl b) = absurd (no_drop node way answer octets other cause b dropped)
own_once node way answer octets one other (inr (cause, dropped, refused, a)) (inr (second, also, told, b)) =
    let same : cause ≡ second = (one_ask way octets).dropped_once cause second dropped also in
    one_drop node way octets second one other (subst (λ (c : Cause). Drops node way octets c one) same a) b

-- the hop is one
pub one_hop : (node : Node) (way : Way) (answer : Answer) (octets : List ℕ) → IsOneAtMost (IsEdgeHop node way answer octets)
one_hop node way answer octets one other (x, xs, own, freed, is) (y, ys, its, those, also) =
    let same : x ≡ y = own_once node way answer octets x y own its in
    let rest : xs ≡ ys = all_freed (IsLaterAt way) (Becomes node way answer) (freed_of answer) (becomes node way answer) xs ys freed those in
    is ∙ (λ i. then (same i) (rest i)) ∙ sym also
