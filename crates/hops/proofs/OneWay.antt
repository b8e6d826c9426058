-- That what becomes of a packet is one: its answer, and what is carried, dropped and freed.
use Rattle.std.proofs.Common.{◌≡◌, ◌∙◌, ap, refl, sym, subst, inl, inr, true, false, ℕ, List, [], ◌∷◌}
use Rattle.std.specs.Prelude.{Option, Some, None}
use Rattle.octets.specs.declared.address.Addr4.{Addr4}
use Rattle.octets.specs.declared.address.Addr6.{Addr6}
use Rattle.octets.specs.declared.cause.Cause.{Cause}
use Rattle.octets.specs.declared.cause.Cause.TheVariants.{SourceRoute, TtlSpent, TooBig as IsTooBig}
use Rattle.octets.specs.declared.mtus.Mtus.{Mtus}
use Rattle.octets.specs.declared.parcel.Parcel.{Parcel}
use Rattle.ip4_packet.specs.declared.head.Head4.{Head4}
use Rattle.ip6_packet.specs.declared.head.Head6.{Head6}
use Rattle.packet_faults.specs.declared.notice.Notice.{Notice}
use Rattle.packets.specs.OneOf.{IsOneAtMost}
use Rattle.transit.specs.declared.passage.Passage.{Passage}
use Rattle.transit.specs.declared.passage.Passage.TheVariants.{Sent, Cut, Spent, TooBig}
use Rattle.hops.specs.declared.answering.Answering.{Answering}
use Rattle.hops.specs.declared.exit.Exit.{Exit}
use Rattle.hops.specs.declared.hop.Hop.{Hop}
use Rattle.packets.specs.declared.found.Found.{Found}
use Rattle.packets.specs.declared.found.Found.TheVariants.{Taken, Unreadable, Dropped}
use Rattle.hops.specs.Hop.{lost, drops, then, IsRefused, IsDroppedFor, IsCarried, IsFreed, AreFreed, IsMade}
use Rattle.hops.specs.Reply.{has_notice, notice4, notice6, IsAnswer4, IsAnswer6, IsReply4, IsReply6}

none_some : {A : Type 0} (x : A) → ◌≡◌ {A = Option A} (Some x) None → ⊥
none_some x e = cc

pub one_answer4 : (h : Head4) (packet : List ℕ) (from : Answering Addr4) (what : Option Notice) → IsOneAtMost (IsAnswer4 h packet from what)
one_answer4 h packet from None one other a b = a ∙ sym b
one_answer4 h packet from (Some what) None None a b = refl
one_answer4 h packet from (Some what) None (Some y) a b = absurd (none_some y (b.0.1 (a.0.0 refl)))
one_answer4 h packet from (Some what) (Some x) None a b = absurd (none_some x (a.0.1 (b.0.0 refl)))
one_answer4 h packet from (Some what) (Some x) (Some y) a b = ap (λ (o : List ℕ). Some o) (a.1 ∙ sym b.1)

pub one_answer6 : (h : Head6) (packet : List ℕ) (from : Answering Addr6) (what : Option Notice) → IsOneAtMost (IsAnswer6 h packet from what)
one_answer6 h packet from None one other a b = a ∙ sym b
one_answer6 h packet from (Some what) None None a b = refl
one_answer6 h packet from (Some what) None (Some y) a b = absurd (none_some y (b.0.1 (a.0.0 refl)))
one_answer6 h packet from (Some what) (Some x) None a b = absurd (none_some x (a.0.1 (b.0.0 refl)))
one_answer6 h packet from (Some what) (Some x) (Some y) a b = ap (λ (o : List ℕ). Some o) (a.1 ∙ sym b.1)

-- a cause without a notice has none over either version
pub unnoticed4 : (mtus : Mtus) (cause : Cause) → has_notice cause ≡ false → notice4 mtus cause ≡ None
unnoticed4 mtus SourceRoute e = absurd (let f : true ≡ false = e in cc)
unnoticed4 mtus TtlSpent e = absurd (let f : true ≡ false = e in cc)
unnoticed4 mtus IsTooBig e = absurd (let f : true ≡ false = e in cc)
unnoticed4 mtus _ e = refl

pub unnoticed6 : (mtus : Mtus) (left : Option ℕ) (cause : Cause) → has_notice cause ≡ false → notice6 mtus left cause ≡ None
unnoticed6 mtus left SourceRoute e = absurd (let f : true ≡ false = e in cc)
unnoticed6 mtus left TtlSpent e = absurd (let f : true ≡ false = e in cc)
unnoticed6 mtus left IsTooBig e = absurd (let f : true ≡ false = e in cc)
unnoticed6 mtus left _ e = refl

-- what is carried comes to one hop, where a drop for each cause does
pub one_carried : (Loses : Cause → Hop → Type 0) (exit : Exit) (passage : Passage) → ((cause : Cause) → IsOneAtMost (Loses cause))
    → IsOneAtMost (IsCarried Loses exit passage)
one_carried Loses exit (Sent octets) drop = λ one other a b. a ∙ sym b
one_carried Loses exit (Cut pieces) drop = λ one other a b. a ∙ sym b
one_carried Loses exit Spent drop = λ one other a b. drop TtlSpent one other a b
one_carried Loses exit TooBig drop = λ one other a b. drop IsTooBig one other a b

one_freed : (IsLater : List ℕ → Type 0) (Becomes : List ℕ → Hop → Type 0) (octets : List ℕ) → IsOneAtMost (Becomes octets) → IsOneAtMost (IsFreed IsLater Becomes octets)
one_freed IsLater Becomes octets becomes one other (inl a) (inl b) = becomes one other a.1 b.1
one_freed IsLater Becomes octets becomes one other (inl a) (inr b) = absurd (b.0 a.0)
one_freed IsLater Becomes octets becomes one other (inr a) (inl b) = absurd (a.0 b.0)
one_freed IsLater Becomes octets becomes one other (inr a) (inr b) = a.1 ∙ sym b.1

-- and what is freed does, where each fragment does
pub all_freed : (IsLater : List ℕ → Type 0) (Becomes : List ℕ → Hop → Type 0) (parcels : List Parcel) → ((octets : List ℕ) → IsOneAtMost (Becomes octets))
    → IsOneAtMost (AreFreed IsLater Becomes parcels)
all_freed IsLater Becomes [] becomes one other a b = a ∙ sym b
all_freed IsLater Becomes (parcel ∷ parcels) becomes one other (x, xs, first, others, is) (y, ys, second, more, also) =
    let same : x ≡ y = one_freed IsLater Becomes parcel.bytes (becomes parcel.bytes) x y first second in
    let rest : xs ≡ ys = all_freed IsLater Becomes parcels becomes xs ys others more in
    is ∙ (λ i. then (same i) (rest i)) ∙ sym also

-- a refused packet comes to one hop, where one reply at most answers it
pub one_refused : (IsReply : Cause → Option (List ℕ) → Type 0) (exit : Exit) (cause : Cause) → IsOneAtMost (IsReply cause) → IsOneAtMost (IsRefused IsReply exit cause)
one_refused IsReply exit cause one_reply one other (x, reply, is) (y, answer, also) =
    is ∙ ap (λ (r : Option (List ℕ)). drops cause exit r) (one_reply x y reply answer) ∙ sym also

-- and a dropped one, where one header at most stands in front, and a cause without an answer gets none
pub dropped_once : {H : Type 0} (IsHeader : H → Type 0) (Refused : H → Cause → Hop → Type 0) (cause : Cause) → IsOneAtMost IsHeader
    → ((h : H) → IsOneAtMost (Refused h cause)) → ((h : H) (hop : Hop) → has_notice cause ≡ false → Refused h cause hop → hop ≡ lost cause)
    → IsOneAtMost (IsDroppedFor IsHeader Refused cause)
dropped_once IsHeader Refused cause header refused silent one other (inl a) (inl b) = a.1 ∙ sym b.1
dropped_once IsHeader Refused cause header refused silent one other (inl a) (inr (h, is, b)) = a.1 ∙ sym (silent h other a.0 b)
dropped_once IsHeader Refused cause header refused silent one other (inr (h, is, a)) (inl b) = silent h one b.0 a ∙ sym b.1
dropped_once {H} IsHeader Refused cause header refused silent one other (inr (h, is, a)) (inr (g, has, b)) =
    refused g one other (subst (λ (x : H). Refused x cause one) (header h g is has) a) b

-- a cause without an answer gets none behind a header
pub silent4 : (from : Answering Addr4) (h : Head4) (octets : List ℕ) (cause : Cause) (hop : Hop) → has_notice cause ≡ false
    → IsRefused (IsReply4 from h octets) from.exit cause hop → hop ≡ lost cause
silent4 from h octets cause hop none (reply, answer, is) =
    let silent : reply ≡ None = subst (λ (n : Option Notice). IsAnswer4 h octets from n reply) (unnoticed4 from.mtus cause none) answer in
    is ∙ ap (λ (r : Option (List ℕ)). drops cause from.exit r) silent

pub silent6 : (from : Answering Addr6) (h : Head6) (octets : List ℕ) (cause : Cause) (hop : Hop) → has_notice cause ≡ false
    → IsRefused (IsReply6 from h octets) from.exit cause hop → hop ≡ lost cause
silent6 from h octets cause hop none (reply, answer, is) =
    let silent : reply ≡ None = subst (λ (n : Option Notice). IsAnswer6 h octets from n reply) (unnoticed6 from.mtus h.left cause none) answer in
    is ∙ ap (λ (r : Option (List ℕ)). drops cause from.exit r) silent

-- what is made of what is found is one, where it is of a packet and of a dropped one
pub one_made : {P H : Type 0} (Made : P → Hop → Type 0) (Refuses : H → Cause → Hop → Type 0) (found : Found P H) → ((p : P) → IsOneAtMost (Made p))
    → ((h : H) (cause : Cause) → IsOneAtMost (Refuses h cause)) → IsOneAtMost (IsMade Made Refuses found)
one_made Made Refuses (Taken p) made refused one other a b = made p one other a b
one_made Made Refuses (Unreadable cause) made refused one other a b = a ∙ sym b
one_made Made Refuses (Dropped cause h) made refused one other a b = refused h cause one other a b
