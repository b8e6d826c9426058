-- What may be emitted, by what was found.
use Rattle.std.proofs.Common.{◌≡◌, ◌∙◌, ℕ, List, [], refl, sym, ap, subst, inl, inr, false}
use Rattle.octets.specs.declared.cause.Cause.{Cause}
use Rattle.nat_model.specs.declared.answer.Answer.{Answer}
use Rattle.nat_model.specs.declared.answer.Answer.TheVariants.{Refused}
use Rattle.nat_model.specs.Waiting.{freed_of}
use Rattle.hops.specs.declared.hop.Hop.{Hop}
use Rattle.hops.specs.Hop.{nothing, AreFreed, AreBoth}
use Rattle.hops.proofs.Gained.{then_nothing}
use Rattle.packets.proofs.Taken4.{never_both4}
use Rattle.packets.proofs.Taken6.{never_both6}
use Rattle.edge_node.specs.declared.way.Node.{Node}
use Rattle.edge_node.specs.declared.way.Way.{Way}
use Rattle.edge_node.specs.declared.way.Way.TheVariants.{Lan, Access, Turned}
use Rattle.edge_node.specs.Asked.{IsDroppedAt}
use Rattle.edge_node.specs.Hop.{Drops, Becomes, IsLaterAt, IsAnswerAt, IsTaken, IsEmittable, IsEdgeHop}
use Rattle.edge_node.proofs.OneHop.{one_ask}

-- a packet that is taken isn't dropped
taken_alone : (way : Way) (octets : List ℕ) (cause : Cause) → IsTaken way octets → IsDroppedAt way cause octets → ⊥
taken_alone Lan octets cause (p, is) dropped = never_both4 p cause octets is dropped
taken_alone Access octets cause (p, is) dropped = never_both6 false p cause octets is dropped
taken_alone Turned octets cause (p, is) dropped = never_both4 p cause octets is dropped

-- its answer is one of its way
pub answer_of_way : (way : Way) (answer : Answer) (octets : List ℕ) → IsTaken way octets → IsEmittable way answer octets → IsAnswerAt way answer
answer_of_way way answer octets taken (inl (also, at)) = at
answer_of_way way answer octets taken (inr (cause, dropped, refused)) = absurd (taken_alone way octets cause taken dropped)

-- and that of one that is dropped is the refusal
refusal : (way : Way) (answer : Answer) (octets : List ℕ) (cause : Cause) → IsDroppedAt way cause octets → IsEmittable way answer octets → answer ≡ Refused cause []
refusal way answer octets cause dropped (inl (taken, at)) = absurd (taken_alone way octets cause taken dropped)
refusal way answer octets cause dropped (inr (other, also, is)) =
    is ∙ ap (λ (c : Cause). Refused c []) ((one_ask way octets).dropped_once other cause also dropped)

pub dropped_hop : (node : Node) (way : Way) (answer : Answer) (octets : List ℕ) (cause : Cause) (hop : Hop) → IsDroppedAt way cause octets
    → IsEmittable way answer octets → Drops node way octets cause hop → IsEdgeHop node way answer octets hop
dropped_hop node way answer octets cause hop dropped emittable drops =
    let refused : answer ≡ Refused cause [] = refusal way answer octets cause dropped emittable in (
      hop,
      nothing,
      inr (cause, dropped, refused, drops),
      subst (λ (a : Answer). AreFreed (IsLaterAt way) (Becomes node way a) (freed_of a) nothing) (sym refused) refl,
      then_nothing hop,
    )

-- the hop of a packet that is taken
pub taken_hop : (node : Node) (way : Way) (answer : Answer) (octets : List ℕ) (One : Hop → Type 0) (hop : Hop) → ((own : Hop) → One own → Becomes node way answer octets own)
    → AreBoth One (AreFreed (IsLaterAt way) (Becomes node way answer) (freed_of answer)) hop → IsEdgeHop node way answer octets hop
taken_hop node way answer octets One hop step (own, others, is, freed, e) = (own, others, inl (step own is), freed, e)
