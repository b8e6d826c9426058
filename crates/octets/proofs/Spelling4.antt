-- What is read of an IPv4 address's text is what it spells, and what it spells is read.
use Rattle.std.proofs.Common.{◌≡◌, ◌≢◌, ℕ, ◌^◌, ◌≤◌, ◌<◌, List, ◌∷◌, ◌++◌, get_or, Option, Some, refl, sym, ap, subst, ◌∙◌, arith}
use Rattle.std.specs.Fmt.{decimal}
use Rattle.std.specs.Char.{digit_value}
use Rattle.std.proofs.lemmas.Fmt.{decimal_is_IsNumeral}
use Rattle.octets.specs.Bits.{bits_at}
use Rattle.octets.specs.Numeral.{◌>>=◌, dot, slash, cut_at, small_decimal_at}
use Rattle.octets.specs.Text4.{dotted, number_of_octets, IsText4, text4, addr4_at}
use Rattle.octets.proofs.Cuts.{Lacks, CutTells, cut_tells, cut_at-append, lacks_cons, lacks_append}
use Rattle.octets.proofs.Numerals.{some_behind, digit_in, small_again, small_tells}

-- no digit is such an octet
pub decimal_lacks : (octet n : ℕ) → 10 ≤ digit_value octet → n < 256 → Lacks octet (decimal n)
decimal_lacks octet n high lt i within e =
    let numeral = decimal_is_IsNumeral n (omega arith) in
    let digit = digit_in 10 (decimal n) i numeral.0.1 within in
    let same : digit_value (get_or (decimal n) i 0) ≡ digit_value octet = ap digit_value e in
    omega (arith, digit, same)

pub addr4_again : (text : List ℕ) (n : ℕ) → IsText4 text n → addr4_at text ≡ Some n
unfolding addr4_at
addr4_again text n h =
    let a = cut_at-append dot (decimal h.first) (decimal h.second ++ dot ∷ (decimal h.third ++ dot ∷ decimal h.fourth)) (decimal_lacks dot h.first (omega arith) h.below.0) in
    let b = cut_at-append dot (decimal h.second) (decimal h.third ++ dot ∷ decimal h.fourth) (decimal_lacks dot h.second (omega arith) h.below.1) in
    let c = cut_at-append dot (decimal h.third) (decimal h.fourth) (decimal_lacks dot h.third (omega arith) h.below.2) in
    rw (h.spelled, a, b, c, small_again h.first h.below.0, small_again h.second h.below.1, small_again h.third h.below.2, small_again h.fourth h.below.3) (ap (λ (m : ℕ). Some m) (sym h.value))

abbrev some : ℕ → Option ℕ
some n = Some n

some_is : (m n : ℕ) → some m ≡ some n → n ≡ m
some_is m n e = cc

cut_found : (octet : ℕ) (text : List ℕ) (parts : List ℕ × List ℕ) → cut_at octet text ≡ Some parts → text ≡ parts.0 ++ octet ∷ parts.1
unfolding CutTells
cut_found octet text parts e = (subst (λ (o : Option (List ℕ × List ℕ)). CutTells octet text o) e (cut_tells octet text)).0

put_together : (text a r b s c d : List ℕ) (first second third fourth n : ℕ) → text ≡ a ++ dot ∷ r → r ≡ b ++ dot ∷ s → s ≡ c ++ dot ∷ d → (a ≡ decimal first) × (first < 256) → (b ≡ decimal second) × (second < 256) → (c ≡ decimal third) × (third < 256) → (d ≡ decimal fourth) × (fourth < 256) → some (number_of_octets first second third fourth) ≡ some n → IsText4 text n
put_together text a r b s c d first second third fourth n e1 e2 e3 p q u v value = record {
  first = first;
  second = second;
  third = third;
  fourth = fourth;
  below = (p.1, q.1, u.1, v.1);
  spelled = e1 ∙ rw (e2, e3, p.0, q.0, u.0, v.0) refl;
  value = some_is (number_of_octets first second third fourth) n value;
}

pub addr4_found : (text : List ℕ) (n : ℕ) → addr4_at text ≡ Some n → IsText4 text n
unfolding addr4_at
addr4_found text n e =
    let a = some_behind (cut_at dot text) (λ a. cut_at dot a.1 >>= λ b. cut_at dot b.1 >>= λ c. small_decimal_at a.0 >>= λ first. small_decimal_at b.0 >>= λ second. small_decimal_at c.0 >>= λ third. small_decimal_at c.1 >>= λ fourth. Some (number_of_octets first second third fourth)) n e in
    let b = some_behind (cut_at dot a.0.1) (λ b. cut_at dot b.1 >>= λ c. small_decimal_at a.0.0 >>= λ first. small_decimal_at b.0 >>= λ second. small_decimal_at c.0 >>= λ third. small_decimal_at c.1 >>= λ fourth. Some (number_of_octets first second third fourth)) n a.2 in
    let c = some_behind (cut_at dot b.0.1) (λ c. small_decimal_at a.0.0 >>= λ first. small_decimal_at b.0.0 >>= λ second. small_decimal_at c.0 >>= λ third. small_decimal_at c.1 >>= λ fourth. Some (number_of_octets first second third fourth)) n b.2 in
    let first = some_behind (small_decimal_at a.0.0) (λ first. small_decimal_at b.0.0 >>= λ second. small_decimal_at c.0.0 >>= λ third. small_decimal_at c.0.1 >>= λ fourth. Some (number_of_octets first second third fourth)) n c.2 in
    let second = some_behind (small_decimal_at b.0.0) (λ second. small_decimal_at c.0.0 >>= λ third. small_decimal_at c.0.1 >>= λ fourth. Some (number_of_octets first.0 second third fourth)) n first.2 in
    let third = some_behind (small_decimal_at c.0.0) (λ third. small_decimal_at c.0.1 >>= λ fourth. Some (number_of_octets first.0 second.0 third fourth)) n second.2 in
    let fourth = some_behind (small_decimal_at c.0.1) (λ fourth. Some (number_of_octets first.0 second.0 third.0 fourth)) n third.2 in
    put_together text a.0.0 a.0.1 b.0.0 b.0.1 c.0.0 c.0.1 first.0 second.0 third.0 fourth.0 n (cut_found dot text a.0 a.1) (cut_found dot a.0.1 b.0 b.1) (cut_found dot b.0.1 c.0 c.1) (small_tells first.0 a.0.0 first.1) (small_tells second.0 b.0.0 second.1) (small_tells third.0 c.0.0 third.1) (small_tells fourth.0 c.0.1 fourth.1) fourth.2

-- the text that is written spells its number
pub text4_spells : (n : ℕ) → n < 2 ^ 32 → IsText4 (text4 n) n
unfolding text4
text4_spells n lt = record {
  first = bits_at 32 n 0 8;
  second = bits_at 32 n 8 8;
  third = bits_at 32 n 16 8;
  fourth = bits_at 32 n 24 8;
  below = (omega arith, omega arith, omega arith, omega arith);
  spelled = refl;
  value = omega arith;
}

-- no slash stands in an address
pub no_slash4 : (text : List ℕ) (n : ℕ) → IsText4 text n → Lacks slash text
no_slash4 text n h =
    let part = λ (m : ℕ) (lt : m < 256). decimal_lacks slash m (omega arith) lt in
    let other : dot ≢ slash = omega arith in
    let last = lacks_cons slash dot (decimal h.fourth) other (part h.fourth h.below.3) in
    let third = lacks_cons slash dot (decimal h.third ++ dot ∷ decimal h.fourth) other (lacks_append slash (decimal h.third) (dot ∷ decimal h.fourth) (part h.third h.below.2) last) in
    let second = lacks_cons slash dot (decimal h.second ++ dot ∷ (decimal h.third ++ dot ∷ decimal h.fourth)) other (lacks_append slash (decimal h.second) (dot ∷ (decimal h.third ++ dot ∷ decimal h.fourth)) (part h.second h.below.1) third) in
    subst (λ (xs : List ℕ). Lacks slash xs) (sym h.spelled) (lacks_append slash (decimal h.first) (dot ∷ (decimal h.second ++ dot ∷ (decimal h.third ++ dot ∷ decimal h.fourth))) (part h.first h.below.0) second)

-- and no other text does
pub one_text4 : (text : List ℕ) (n : ℕ) → IsText4 text n → text ≡ text4 n
unfolding text4
one_text4 text n h =
    let a : h.first ≡ bits_at 32 n 0 8 = omega (arith, h.value, h.below.0, h.below.1, h.below.2, h.below.3) in
    let b : h.second ≡ bits_at 32 n 8 8 = omega (arith, h.value, h.below.0, h.below.1, h.below.2, h.below.3) in
    let c : h.third ≡ bits_at 32 n 16 8 = omega (arith, h.value, h.below.0, h.below.1, h.below.2, h.below.3) in
    let d : h.fourth ≡ bits_at 32 n 24 8 = omega (arith, h.value, h.below.0, h.below.1, h.below.2, h.below.3) in
    h.spelled ∙ ap (λ (x : ℕ). dotted (decimal x) (decimal h.second) (decimal h.third) (decimal h.fourth)) a
    ∙ ap (λ (x : ℕ). dotted (decimal (bits_at 32 n 0 8)) (decimal x) (decimal h.third) (decimal h.fourth)) b
    ∙ ap (λ (x : ℕ). dotted (decimal (bits_at 32 n 0 8)) (decimal (bits_at 32 n 8 8)) (decimal x) (decimal h.fourth)) c
    ∙ ap (λ (x : ℕ). dotted (decimal (bits_at 32 n 0 8)) (decimal (bits_at 32 n 8 8)) (decimal (bits_at 32 n 16 8)) (decimal x)) d
