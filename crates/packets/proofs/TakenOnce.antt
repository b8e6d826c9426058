-- Octets are taken as one packet or dropped for one cause, and so is what is made of the packet.
use Rattle.std.proofs.Common.{◌≡◌, ◌⊎◌, ℕ, List, inl, inr, refl, sym, ap, ◌∙◌}
use Rattle.std.specs.Prelude.{Bool}
use Rattle.octets.specs.declared.cause.Cause.{Cause}
use Rattle.packets.specs.declared.packet4.Packet4.{Packet4}
use Rattle.packets.specs.declared.packet6.Packet6.{Packet6}
use Rattle.packets.specs.Behind4.{IsDropped4}
use Rattle.packets.specs.Behind6.{IsDropped6}
use Rattle.packets.specs.OneOf.{IsTakenOrDropped}
use Rattle.packets.specs.Packet4.{IsPacket4}
use Rattle.packets.specs.Packet6.{IsPacket6}
use Rattle.packets.proofs.Taken4.{taken_or_dropped4, never_both4, same_packet4, one_cause4}
use Rattle.packets.proofs.Taken6.{taken_or_dropped6, never_both6, same_packet6, one_cause6}

pub taken4 : (octets : List ℕ) → IsTakenOrDropped (λ (p : Packet4). IsPacket4 p octets) (λ (cause : Cause). IsDropped4 cause octets)
taken4 octets = record {
  always = taken_or_dropped4 octets;
  never_both = λ p cause is dropped. never_both4 p cause octets is dropped;
  taken_once = λ p q a b. same_packet4 p q octets a b;
  dropped_once = λ one other a b. one_cause4 one other octets a b;
}

pub taken6 : (at_relay : Bool) (octets : List ℕ) → IsTakenOrDropped (λ (p : Packet6). IsPacket6 at_relay p octets) (λ (cause : Cause). IsDropped6 at_relay cause octets)
taken6 at_relay octets = record {
  always = taken_or_dropped6 at_relay octets;
  never_both = λ p cause is dropped. never_both6 at_relay p cause octets is dropped;
  taken_once = λ p q a b. same_packet6 at_relay p q octets a b;
  dropped_once = λ one other a b. one_cause6 at_relay one other octets a b;
}

-- what is a function of what is taken comes in one way too, or else it is dropped
pub made_of : {P A B : Type 0} (Is : P → Type 0) (IsDropped : B → Type 0) (make : P → A) → IsTakenOrDropped Is IsDropped
    → IsTakenOrDropped (λ (a : A). (p : P) × Is p × (a ≡ make p)) IsDropped
made_of {P} {A} {B} Is IsDropped make way = record {
  always = always way.always;
  never_both = λ a b (p, is, e) dropped. way.never_both p b is dropped;
  taken_once = λ one other (p, is, e) (q, has, f). e ∙ ap make (way.taken_once p q is has) ∙ sym f;
  dropped_once = way.dropped_once;
}
  where
    always : ((p : P) × Is p) ⊎ ((b : B) × IsDropped b) → ((a : A) × ((p : P) × Is p × (a ≡ make p))) ⊎ ((b : B) × IsDropped b)
    always (inl (p, is)) = inl (make p, (p, is, refl))
    always (inr dropped) = inr dropped
