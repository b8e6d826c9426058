-- Ports and a sum that are replaced twice: the later ones stand.
use Rattle.std.proofs.Common.{◌≡◌, ◌≢◌, ℕ, ◌+◌, ◌≤◌, ◌⊎◌, inl, inr, List, length, ap, ◌∙◌, refl, arith}
use Rattle.std.proofs.lemmas.List.{places}
use Rattle.std.proofs.lemmas.Grind.{same_number_lists}
use Rattle.octets.specs.Field.{with_word}
use Rattle.octets.proofs.Words.{length-with_word}
use Rattle.octets.specs.declared.proto.Proto.{Proto}
use Rattle.octets.specs.declared.proto.Proto.TheVariants.{Tcp, Udp, Icmp}
use Rattle.l4_headers.specs.declared.ports.Ports.{Ports}
use Rattle.l4_headers.specs.Transport.{header_octets, with_l4}

-- a number that is written over another
pub over : (at n m : ℕ) (xs : List ℕ) → at + 2 ≤ length xs → with_word at n (with_word at m xs) ≡ with_word at n xs
over at n m xs fits = same_number_lists _ _ (grind (arith, places)) (λ k small. grind (arith, places))

-- numbers at places apart are written in any order
pub apart : (a b n m : ℕ) (xs : List ℕ) → a + 2 ≤ length xs → b + 2 ≤ length xs → (a + 2 ≤ b) ⊎ (b + 2 ≤ a) → with_word a n (with_word b m xs) ≡ with_word b m (with_word a n xs)
apart a b n m xs one other (inl below) = same_number_lists _ _ (grind (arith, places)) (λ k small. grind (arith, places))
apart a b n m xs one other (inr above) = same_number_lists _ _ (grind (arith, places)) (λ k small. grind (arith, places))

-- three numbers at places apart, written over three others
pub three : (at s t p q r v : ℕ) (xs : List ℕ) → 4 ≤ at → at + 2 ≤ length xs
    → with_word at t (with_word 2 v (with_word 0 r (with_word at s (with_word 2 q (with_word 0 p xs))))) ≡ with_word at t (with_word 2 v (with_word 0 r xs))
three at s t p q r v xs behind fits =
    let x0 = with_word 0 p xs in
    let x2 = with_word 2 q x0 in
    let l0 : length x0 ≡ length xs = length-with_word 0 p xs (omega arith) in
    let l2 : length x2 ≡ length x0 = length-with_word 2 q x0 (omega arith) in
    let l3 : length (with_word 0 r x2) ≡ length x2 = length-with_word 0 r x2 (omega arith) in
    let l4 : length (with_word 2 v (with_word 0 r x2)) ≡ length (with_word 0 r x2) = length-with_word 2 v (with_word 0 r x2) (omega arith) in
    let l5 : length (with_word 0 r xs) ≡ length xs = length-with_word 0 r xs (omega arith) in
    let e0 : with_word 0 r (with_word at s x2) ≡ with_word at s (with_word 0 r x2) = apart 0 at r s x2 (omega arith) (omega arith) (inl (omega arith)) in
    let e2 : with_word 2 v (with_word at s (with_word 0 r x2)) ≡ with_word at s (with_word 2 v (with_word 0 r x2)) = apart 2 at v s (with_word 0 r x2) (omega arith) (omega arith) (inl (omega arith)) in
    let e3 : with_word at t (with_word at s (with_word 2 v (with_word 0 r x2))) ≡ with_word at t (with_word 2 v (with_word 0 r x2)) = over at t s (with_word 2 v (with_word 0 r x2)) (omega arith) in
    let e4 : with_word 0 r (with_word 2 q x0) ≡ with_word 2 q (with_word 0 r x0) = apart 0 2 r q x0 (omega arith) (omega arith) (inl (omega arith)) in
    let e5 : with_word 0 r x0 ≡ with_word 0 r xs = over 0 r p xs (omega arith) in
    let e6 : with_word 2 v (with_word 2 q (with_word 0 r xs)) ≡ with_word 2 v (with_word 0 r xs) = over 2 v q (with_word 0 r xs) (omega arith) in
    ap (λ (ys : List ℕ). with_word at t (with_word 2 v ys)) e0
    ∙ ap (λ (ys : List ℕ). with_word at t ys) e2
    ∙ e3
    ∙ ap (λ (ys : List ℕ). with_word at t (with_word 2 v ys)) (e4 ∙ ap (λ (ys : List ℕ). with_word 2 q ys) e5)
    ∙ ap (λ (ys : List ℕ). with_word at t ys) e6

pub with_l4-twice : (proto : Proto) (payload : List ℕ) (before after : Ports) (one other : ℕ) → proto ≢ Icmp → header_octets proto ≤ length payload
    → with_l4 proto (with_l4 proto payload before one) after other ≡ with_l4 proto payload after other
with_l4-twice Tcp payload before after one other flows stands = three 16 one other before.src before.dst after.src after.dst payload (omega arith) (omega arith)
with_l4-twice Udp payload before after one other flows stands = three 6 one other before.src before.dst after.src after.dst payload (omega arith) (omega arith)
with_l4-twice Icmp payload before after one other flows stands = absurd (flows refl)
