-- Octets that give no later fragment.
use Rattle.std.proofs.Common.{◌≡◌, ◌∙◌, ap, sym, ℕ, List}
use Rattle.octets.specs.declared.cause.Cause.{Cause}
use Rattle.packets.specs.declared.asked.Extent.{Extent}
use Rattle.packets.specs.declared.asked.Extent.TheVariants.{Whole, First, Later}
use Rattle.packets.specs.declared.found.Found.{Found}
use Rattle.packets.specs.declared.found.Found.TheVariants.{Taken, Unreadable, Dropped}
use Rattle.hops.specs.Hop.{IsLaterFragment}

-- a packet that is found is the one
same_packet : {P H : Type 0} (found : Found P H) (p q : P) → found ≡ Taken p → found ≡ Taken q → p ≡ q
same_packet {P} {H} found p q a b = let e : ◌≡◌ {A = Found P H} (Taken p) (Taken q) = sym a ∙ b in cc

-- it is no later fragment
pub no_later : {P H : Type 0} (IsPacket : P → List ℕ → Type 0) (extent : P → Extent) (octets : List ℕ) (found : Found P H) (packet : P)
    → ((p : P) → IsPacket p octets → found ≡ Taken p) → found ≡ Taken packet → (extent packet ≡ Later → ⊥) → IsLaterFragment IsPacket extent octets → ⊥
no_later IsPacket extent octets found packet only is not (p, has, later) = not (ap extent (same_packet found packet p is (only p has)) ∙ later)

pub whole : (e : Extent) → e ≡ Whole → e ≡ Later → ⊥
whole e a b = let f : Whole ≡ Later = sym a ∙ b in cc

pub first : (e : Extent) → e ≡ First → e ≡ Later → ⊥
first e a b = let f : First ≡ Later = sym a ∙ b in cc

-- and where none is found there is none
pub unreadable : {P H : Type 0} (IsPacket : P → List ℕ → Type 0) (extent : P → Extent) (octets : List ℕ) (found : Found P H) (cause : Cause)
    → ((p : P) → IsPacket p octets → found ≡ Taken p) → found ≡ Unreadable cause → IsLaterFragment IsPacket extent octets → ⊥
unreadable {P} {H} IsPacket extent octets found cause only is (p, has, later) =
    let e : ◌≡◌ {A = Found P H} (Taken p) (Unreadable cause) = sym (only p has) ∙ is in cc

pub dropped : {P H : Type 0} (IsPacket : P → List ℕ → Type 0) (extent : P → Extent) (octets : List ℕ) (found : Found P H) (cause : Cause) (h : H)
    → ((p : P) → IsPacket p octets → found ≡ Taken p) → found ≡ Dropped cause h → IsLaterFragment IsPacket extent octets → ⊥
dropped {P} {H} IsPacket extent octets found cause h only is (p, has, later) =
    let e : ◌≡◌ {A = Found P H} (Taken p) (Dropped cause h) = sym (only p has) ∙ is in cc
