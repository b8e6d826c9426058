-- What is read of a prefix's text is what it spells, and what it spells is read.
use Rattle.std.proofs.Common.{◌≡◌, ℕ, ◌-◌, ◌%◌, ◌^◌, ◌<◌, true, ◌&&◌, cond, List, ◌∷◌, ◌++◌, Option, Some, None, refl, ap, subst, ◌∙◌, arith, inl, inr}
use Rattle.std.specs.Prelude.{◌==◌, nat_le}
use Rattle.std.proofs.lemmas.Bool.{leb-true, le-leb, eqb-true, eq-eqb, and_parts, and_from}
use Rattle.std.specs.Fmt.{decimal}
use Rattle.octets.specs.Numeral.{◌>>=◌, slash, cut_at, small_decimal_at}
use Rattle.octets.specs.PrefixText.{IsPrefixText, prefix_at}
use Rattle.octets.proofs.Cuts.{Lacks, CutTells, cut_tells, cut_at-append}
use Rattle.octets.proofs.Numerals.{either, some_behind, small_again, small_tells}

abbrev pub both : ℕ × ℕ → Option (ℕ × ℕ)
both p = Some p

pub no_pair : (p : ℕ × ℕ) → None ≡ both p → ⊥
no_pair p e = cc

pub both_are : (p q : ℕ × ℕ) → both p ≡ both q → (p.0 ≡ q.0) × (p.1 ≡ q.1)
both_are p q e = let f : p ≡ q = cc in (ap (λ (x : ℕ × ℕ). x.0) f, ap (λ (x : ℕ × ℕ). x.1) f)

pub prefix_again : (IsAddress : List ℕ → ℕ → Type 0) (address_at : List ℕ → Option ℕ) (width : ℕ) (text : List ℕ) (bits len : ℕ) → width < 256 → ((t : List ℕ) (n : ℕ) → IsAddress t n → Lacks slash t) → ((t : List ℕ) (n : ℕ) → IsAddress t n → address_at t ≡ Some n) → IsPrefixText IsAddress width text bits len → prefix_at address_at width text ≡ both (bits, len)
unfolding prefix_at
prefix_again IsAddress address_at width text bits len small lacks again h =
    let cut = cut_at-append slash h.address (decimal len) (lacks h.address bits h.bits_are) in
    let within = h.within in
    let good : (nat_le len width && bits % 2 ^ (width - len) == 0) ≡ true = and_from (nat_le len width) (bits % 2 ^ (width - len) == 0) (le-leb len width h.within) (eq-eqb (bits % 2 ^ (width - len)) 0 h.clear) in
    rw (h.spelled, cut, again h.address bits h.bits_are, small_again len (omega arith), good) refl

put_together : (IsAddress : List ℕ → ℕ → Type 0) (width : ℕ) (text address digits : List ℕ) (a l bits len : ℕ) → text ≡ address ++ slash ∷ digits → IsAddress address a → (digits ≡ decimal l) × (l < 256) → cond (nat_le l width && a % 2 ^ (width - l) == 0) (both (a, l)) None ≡ both (bits, len) → IsPrefixText IsAddress width text bits len
put_together IsAddress width text address digits a l bits len parts is d e =
    elim (either (nat_le l width && a % 2 ^ (width - l) == 0)) [
      | inl t ↦
          let p = and_parts (nat_le l width) (a % 2 ^ (width - l) == 0) t in
          let f : both (a, l) ≡ both (bits, len) = rw t at e in
          let same = both_are (a, l) (bits, len) f in
          let found : IsPrefixText IsAddress width text a l = record {
            address = address;
            spelled = parts ∙ ap (λ (xs : List ℕ). address ++ slash ∷ xs) d.0;
            bits_are = is;
            within = leb-true l width p.0;
            clear = eqb-true (a % 2 ^ (width - l)) 0 p.1;
          } in
          subst (λ (x : ℕ). IsPrefixText IsAddress width text bits x) same.1 (subst (λ (x : ℕ). IsPrefixText IsAddress width text x l) same.0 found)
      | inr t ↦ absurd (let f : None ≡ both (bits, len) = rw t at e in cc)
    ]

pub prefix_found : (IsAddress : List ℕ → ℕ → Type 0) (address_at : List ℕ → Option ℕ) (width : ℕ) (text : List ℕ) (bits len : ℕ) → ((t : List ℕ) (n : ℕ) → address_at t ≡ Some n → IsAddress t n) → prefix_at address_at width text ≡ both (bits, len) → IsPrefixText IsAddress width text bits len
unfolding prefix_at CutTells
prefix_found IsAddress address_at width text bits len found e =
    let c = some_behind (cut_at slash text) (λ parts. address_at parts.0 >>= λ a. small_decimal_at parts.1 >>= λ l. cond (nat_le l width && a % 2 ^ (width - l) == 0) (both (a, l)) None) (bits, len) e in
    let a = some_behind (address_at c.0.0) (λ a. small_decimal_at c.0.1 >>= λ l. cond (nat_le l width && a % 2 ^ (width - l) == 0) (both (a, l)) None) (bits, len) c.2 in
    let l = some_behind (small_decimal_at c.0.1) (λ l. cond (nat_le l width && a.0 % 2 ^ (width - l) == 0) (both (a.0, l)) None) (bits, len) a.2 in
    let told : CutTells slash text (Some c.0) = subst (λ (o : Option (List ℕ × List ℕ)). CutTells slash text o) c.1 (cut_tells slash text) in
    put_together IsAddress width text c.0.0 c.0.1 a.0 l.0 bits len told.0 (found c.0.0 a.0 a.1) (small_tells l.0 c.0.1 l.1) l.2
