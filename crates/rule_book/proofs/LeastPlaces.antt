-- The places that a refusal names are the least, and valid rules aren't refused.
use Rattle.std.proofs.Common.{◌≡◌, ℕ, ◌<◌, ◌≤◌, Bool, true, false, IsTrue, List, [], ◌∷◌, ◌++◌, length, get_or, refl, sym, ap, subst, ◌∙◌, arith, append_assoc, length-append, ◌⊎◌, inl, inr}
use Rattle.std.specs.Prelude.{Option, Some, None, nat_lt, if◌then◌else◌, ◌↔◌}
use Rattle.std.specs.Option.{option_or, option_map}
use Rattle.std.specs.List.{position, AllPairs}
use Rattle.std.proofs.lemmas.List.{get_or_append_left, get_or_at, take_at}
use Rattle.std.proofs.lemmas.List.Quantifiers.{all_pairs_push, position-Some}
use Rattle.std.proofs.lemmas.Option.{none-some}
use Rattle.std.proofs.lemmas.Bool.{false≢true}
use Rattle.std.proofs.lemmas.Bool.Decides.{nat_tests}
use Rattle.map_rules.specs.declared.rule.Rule.{Rule}
use Rattle.map_rules.specs.declared.dmr.Dmr.{Dmr}
use Rattle.rule_book.specs.declared.fault.BookFault.{BookFault}
use Rattle.rule_book.specs.declared.fault.BookFault.TheVariants.{TooManyRules, Overlap4, Overlap6, OverlapDmr}
use Rattle.rule_book.specs.Valid.{IsValid, clash4, clash6, clash_dmr}
use Rattle.rule_book.specs.Refusal.{pair_after, first_pair, too_many, overlap_of, refusal_of}
use Rattle.octets.specs.Place.{IsFirstPlace}
use Rattle.octets.proofs.Places.{position-exactly, position-none}
use Rattle.rule_book.specs.Least.{IsLeastPair}
use Rattle.rule_book.proofs.Sound.{map-None, valid-unless_refused}

-- which of two choices was taken
pub some-same : {X : Type 0} (x y : X) → Some x ≡ Some y → x ≡ y
some-same x y e = cc

pub or-Some : {X : Type 0} (a b : Option X) (x : X) → option_or a b ≡ Some x → (a ≡ Some x) ⊎ ((a ≡ None) × (b ≡ Some x))
or-Some None b x e = inr (refl, e)
or-Some (Some y) b x e = inl e

pub map-Some : {X Y : Type 0} (f : X → Y) (a : Option X) (y : Y) → option_map f a ≡ Some y → (x : X) × (a ≡ Some x) × (f x ≡ y)
map-Some f None y e = absurd (none-some y e)
map-Some f (Some x) y e = (x, refl, some-same (f x) y e)

abbrev Apart : (Rule → Rule → Bool) → List Rule → Type 0
Apart clash rules = AllPairs (λ r s. ¬ IsTrue (clash r s)) rules

-- the pair that ends with the rule right after those before
least-here : (clash : Rule → Rule → Bool) (before : List Rule) (r : Rule) (rules : List Rule) (i : ℕ) → Apart clash before → position (λ s. clash s r) before ≡ Some i → IsLeastPair clash (before ++ r ∷ rules) i (length before)
least-here clash before r rules i apart found =
    let n : ℕ = length before in
    let all : List Rule = before ++ r ∷ rules in
    let place : (d : Rule) → (i < length before) × (clash (get_or before i d) r ≡ true) × ((k : ℕ) → k < i → clash (get_or before k d) r ≡ false) = λ d. position-Some (λ s. clash s r) before i d found in
    let at : (d : Rule) → get_or all n d ≡ r = λ d. get_or_at before r rules d n refl in
    let front : (k : ℕ) (d : Rule) → k < n → get_or all k d ≡ get_or before k d = λ k d less. get_or_append_left before (r ∷ rules) d k less in
    let P : List Rule → Type 0 = λ xs. Apart clash xs in
    record {
      ordered = (place r).0;
      within = omega (arith, length-append before (r ∷ rules));
      clashes = λ d. ap (λ s. clash s (get_or all n d)) (front i d (place d).0) ∙ ap (λ s. clash (get_or before i d) s) (at d) ∙ (place d).1;
      before = subst P (sym (take_at before (r ∷ rules) n refl)) apart;
      earlier = λ k d less same.
          let first : i < n = (place d).0 in
          let of_k : clash (get_or all k d) (get_or all n d) ≡ clash (get_or before k d) r = ap (λ s. clash s (get_or all n d)) (front k d (omega arith)) ∙ ap (λ s. clash (get_or before k d) s) (at d) in
          absurd (false≢true (sym ((place d).2 k less) ∙ sym of_k ∙ same));
    }

least-step : (clash : Rule → Rule → Bool) (before : List Rule) (r : Rule) (rules : List Rule) (i j : ℕ) → Apart clash before → option_or (option_map (λ i. (i, length before)) (position (λ s. clash s r) before)) (pair_after clash (before ++ r ∷ []) rules) ≡ Some (i, j) → (Apart clash (before ++ r ∷ []) → pair_after clash (before ++ r ∷ []) rules ≡ Some (i, j) → IsLeastPair clash (before ++ r ∷ [] ++ rules) i j) → IsLeastPair clash (before ++ r ∷ rules) i j
least-step clash before r rules i j apart found later =
    elim (or-Some (option_map (λ i. (i, length before)) (position (λ s. clash s r) before)) (pair_after clash (before ++ r ∷ []) rules) (i, j) found) [
      | inl here ↦
          let pair : (k : ℕ) × (position (λ s. clash s r) before ≡ Some k) × ((k, length before) ≡ (i, j)) = map-Some (λ i. (i, length before)) (position (λ s. clash s r) before) (i, j) here in
          let least : IsLeastPair clash (before ++ r ∷ rules) pair.0 (length before) = least-here clash before r rules pair.0 apart pair.1 in
          let First : ℕ → Type 0 = λ n. IsLeastPair clash (before ++ r ∷ rules) n (length before) in
          let Second : ℕ → Type 0 = λ n. IsLeastPair clash (before ++ r ∷ rules) i n in
          subst Second (ap (λ p. p.1) pair.2) (subst First (ap (λ p. p.0) pair.2) least)
      | inr past ↦
          let alone : position (λ s. clash s r) before ≡ None = map-None (λ i. (i, length before)) (position (λ s. clash s r) before) past.0 in
          let joined : Apart clash (before ++ r ∷ []) = all_pairs_push (λ r s. ¬ IsTrue (clash r s)) before r apart (λ k d within same. absurd (false≢true (sym (position-none (λ s. clash s r) before alone k d within) ∙ same))) in
          let P : List Rule → Type 0 = λ xs. IsLeastPair clash xs i j in
          subst P (append_assoc before (r ∷ []) rules) (later joined past.1)
    ]

least-after : (clash : Rule → Rule → Bool) (before rules : List Rule) (i j : ℕ) → Apart clash before → pair_after clash before rules ≡ Some (i, j) → IsLeastPair clash (before ++ rules) i j
least-after clash before [] i j apart found = absurd (none-some (i, j) found)
least-after clash before (r ∷ rules) i j apart found = least-step clash before r rules i j apart found (λ joined later. least-after clash (before ++ r ∷ []) rules i j joined later)

pub first_pair-least : (clash : Rule → Rule → Bool) (rules : List Rule) (i j : ℕ) → first_pair clash rules ≡ Some (i, j) → IsLeastPair clash rules i j
first_pair-least clash rules i j found = least-after clash [] rules i j (λ k l d before within. absurd (omega arith)) found

-- a list with a place has a rule
rule-at : (rules : List Rule) (j : ℕ) → j < length rules → Rule
rule-at [] j within = absurd (omega arith)
rule-at (r ∷ rules) j within = r

-- rules that don't clash have no pair
no_pair : (clash : Rule → Rule → Bool) (rules : List Rule) (o : Option (ℕ × ℕ)) → first_pair clash rules ≡ o → Apart clash rules → o ≡ None
no_pair clash rules None is apart = refl
no_pair clash rules (Some p) is apart =
    let least : IsLeastPair clash rules p.0 p.1 = first_pair-least clash rules p.0 p.1 is in
    let r : Rule = rule-at rules p.1 least.within in
    absurd (apart p.0 p.1 r least.ordered least.within (least.clashes r))

none_in-dmr : (dmr : Dmr) (rules : List Rule) (o : Option ℕ) → position (clash_dmr dmr) rules ≡ o → ((k : ℕ) (d : Rule) → k < length rules → ¬ IsTrue (clash_dmr dmr (get_or rules k d))) → o ≡ None
none_in-dmr dmr rules None is apart = refl
none_in-dmr dmr rules (Some i) is apart =
    let first : IsFirstPlace (clash_dmr dmr) rules i = (position-exactly (clash_dmr dmr) rules i).0 is in
    let r : Rule = rule-at rules i first.within in
    absurd (apart i r first.within (first.passes r))

-- too many rules are refused for this alone
pub many-fault : (b : Bool) (fault : BookFault) → (if b then Some TooManyRules else None) ≡ Some fault → TooManyRules ≡ fault
many-fault true fault e = some-same TooManyRules fault e
many-fault false fault e = absurd (none-some fault e)

overlap-fault : (rules : List Rule) (dmr : Dmr) (fault : BookFault) → ¬ (TooManyRules ≡ fault) → refusal_of rules dmr ≡ Some fault → overlap_of rules dmr ≡ Some fault
overlap-fault rules dmr fault other refused =
    elim (or-Some (too_many rules) (overlap_of rules dmr) fault refused) [
      | inl many ↦ absurd (other (many-fault (nat_lt 256 (length rules)) fault many))
      | inr few ↦ few.1
    ]

-- what was tested in turn
abbrev pub four : List Rule → Option BookFault
four rules = option_map (λ p. Overlap4 p.0 p.1) (first_pair clash4 rules)

abbrev pub six : List Rule → Option BookFault
six rules = option_map (λ p. Overlap6 p.0 p.1) (first_pair clash6 rules)

abbrev pub dmr_at : List Rule → Dmr → Option BookFault
dmr_at rules dmr = option_map OverlapDmr (position (clash_dmr dmr) rules)

from_four : (rules : List Rule) (i j : ℕ) → four rules ≡ Some (Overlap4 i j) → IsLeastPair clash4 rules i j
from_four rules i j found =
    let pair : (p : ℕ × ℕ) × (first_pair clash4 rules ≡ Some p) × (Overlap4 p.0 p.1 ≡ Overlap4 i j) = map-Some (λ p. Overlap4 p.0 p.1) (first_pair clash4 rules) (Overlap4 i j) found in
    let first : pair.0.0 ≡ i = (let e = pair.2 in cc) in
    let second : pair.0.1 ≡ j = (let e = pair.2 in cc) in
    let First : ℕ → Type 0 = λ n. IsLeastPair clash4 rules n pair.0.1 in
    let Second : ℕ → Type 0 = λ n. IsLeastPair clash4 rules i n in
    subst Second second (subst First first (first_pair-least clash4 rules pair.0.0 pair.0.1 pair.1))

from_six : (rules : List Rule) (i j : ℕ) → six rules ≡ Some (Overlap6 i j) → IsLeastPair clash6 rules i j
from_six rules i j found =
    let pair : (p : ℕ × ℕ) × (first_pair clash6 rules ≡ Some p) × (Overlap6 p.0 p.1 ≡ Overlap6 i j) = map-Some (λ p. Overlap6 p.0 p.1) (first_pair clash6 rules) (Overlap6 i j) found in
    let first : pair.0.0 ≡ i = (let e = pair.2 in cc) in
    let second : pair.0.1 ≡ j = (let e = pair.2 in cc) in
    let First : ℕ → Type 0 = λ n. IsLeastPair clash6 rules n pair.0.1 in
    let Second : ℕ → Type 0 = λ n. IsLeastPair clash6 rules i n in
    subst Second second (subst First first (first_pair-least clash6 rules pair.0.0 pair.0.1 pair.1))

from_dmr : (rules : List Rule) (dmr : Dmr) (i : ℕ) → dmr_at rules dmr ≡ Some (OverlapDmr i) → IsFirstPlace (clash_dmr dmr) rules i
from_dmr rules dmr i found =
    let place : (k : ℕ) × (position (clash_dmr dmr) rules ≡ Some k) × (OverlapDmr k ≡ OverlapDmr i) = map-Some OverlapDmr (position (clash_dmr dmr) rules) (OverlapDmr i) found in
    let same : place.0 ≡ i = (let e = place.2 in cc) in
    let P : ℕ → Type 0 = λ n. IsFirstPlace (clash_dmr dmr) rules n in
    subst P same ((position-exactly (clash_dmr dmr) rules place.0).0 place.1)

-- a fault of another kind isn't the one found
pub four-kind : (rules : List Rule) (fault : BookFault) → four rules ≡ Some fault → (i : ℕ) × (j : ℕ) × (Overlap4 i j ≡ fault)
four-kind rules fault found =
    let pair : (p : ℕ × ℕ) × (first_pair clash4 rules ≡ Some p) × (Overlap4 p.0 p.1 ≡ fault) = map-Some (λ p. Overlap4 p.0 p.1) (first_pair clash4 rules) fault found in
    (pair.0.0, pair.0.1, pair.2)

pub six-kind : (rules : List Rule) (fault : BookFault) → six rules ≡ Some fault → (i : ℕ) × (j : ℕ) × (Overlap6 i j ≡ fault)
six-kind rules fault found =
    let pair : (p : ℕ × ℕ) × (first_pair clash6 rules ≡ Some p) × (Overlap6 p.0 p.1 ≡ fault) = map-Some (λ p. Overlap6 p.0 p.1) (first_pair clash6 rules) fault found in
    (pair.0.0, pair.0.1, pair.2)

pub dmr-kind : (rules : List Rule) (dmr : Dmr) (fault : BookFault) → dmr_at rules dmr ≡ Some fault → (i : ℕ) × (OverlapDmr i ≡ fault)
dmr-kind rules dmr fault found =
    let place : (k : ℕ) × (position (clash_dmr dmr) rules ≡ Some k) × (OverlapDmr k ≡ fault) = map-Some OverlapDmr (position (clash_dmr dmr) rules) fault found in
    (place.0, place.2)

many≢four : (i j : ℕ) → ¬ (TooManyRules ≡ Overlap4 i j)
many≢four i j e = cc

many≢six : (i j : ℕ) → ¬ (TooManyRules ≡ Overlap6 i j)
many≢six i j e = cc

many≢dmr : (i : ℕ) → ¬ (TooManyRules ≡ OverlapDmr i)
many≢dmr i e = cc

four≢six : (i j k l : ℕ) → ¬ (Overlap4 i j ≡ Overlap6 k l)
four≢six i j k l e = cc

four≢dmr : (i j k : ℕ) → ¬ (Overlap4 i j ≡ OverlapDmr k)
four≢dmr i j k e = cc

six≢dmr : (i j k : ℕ) → ¬ (Overlap6 i j ≡ OverlapDmr k)
six≢dmr i j k e = cc

pub overlap4-found : (rules : List Rule) (dmr : Dmr) (i j : ℕ) → overlap_of rules dmr ≡ Some (Overlap4 i j) → IsLeastPair clash4 rules i j
overlap4-found rules dmr i j found =
    elim (or-Some (four rules) (option_or (six rules) (dmr_at rules dmr)) (Overlap4 i j) found) [
      | inl here ↦ from_four rules i j here
      | inr past ↦ elim (or-Some (six rules) (dmr_at rules dmr) (Overlap4 i j) past.1) [
        | inl other ↦ (let kind = six-kind rules (Overlap4 i j) other in absurd (four≢six i j kind.0 kind.1 (sym kind.2)))
        | inr other ↦ (let kind = dmr-kind rules dmr (Overlap4 i j) other.1 in absurd (four≢dmr i j kind.0 (sym kind.1)))
      ]
    ]

pub overlap4-least : (rules : List Rule) (dmr : Dmr) (i j : ℕ) → refusal_of rules dmr ≡ Some (Overlap4 i j) → IsLeastPair clash4 rules i j
overlap4-least rules dmr i j refused = overlap4-found rules dmr i j (overlap-fault rules dmr (Overlap4 i j) (many≢four i j) refused)

pub overlap6-found : (rules : List Rule) (dmr : Dmr) (i j : ℕ) → overlap_of rules dmr ≡ Some (Overlap6 i j) → IsLeastPair clash6 rules i j
overlap6-found rules dmr i j found =
    elim (or-Some (four rules) (option_or (six rules) (dmr_at rules dmr)) (Overlap6 i j) found) [
      | inl other ↦ (let kind = four-kind rules (Overlap6 i j) other in absurd (four≢six kind.0 kind.1 i j kind.2))
      | inr past ↦ elim (or-Some (six rules) (dmr_at rules dmr) (Overlap6 i j) past.1) [
        | inl here ↦ from_six rules i j here
        | inr other ↦ (let kind = dmr-kind rules dmr (Overlap6 i j) other.1 in absurd (six≢dmr i j kind.0 (sym kind.1)))
      ]
    ]

pub overlap6-least : (rules : List Rule) (dmr : Dmr) (i j : ℕ) → refusal_of rules dmr ≡ Some (Overlap6 i j) → IsLeastPair clash6 rules i j
overlap6-least rules dmr i j refused = overlap6-found rules dmr i j (overlap-fault rules dmr (Overlap6 i j) (many≢six i j) refused)

pub overlap_dmr-found : (rules : List Rule) (dmr : Dmr) (i : ℕ) → overlap_of rules dmr ≡ Some (OverlapDmr i) → IsFirstPlace (clash_dmr dmr) rules i
overlap_dmr-found rules dmr i found =
    elim (or-Some (four rules) (option_or (six rules) (dmr_at rules dmr)) (OverlapDmr i) found) [
      | inl other ↦ (let kind = four-kind rules (OverlapDmr i) other in absurd (four≢dmr kind.0 kind.1 i kind.2))
      | inr past ↦ elim (or-Some (six rules) (dmr_at rules dmr) (OverlapDmr i) past.1) [
        | inl other ↦ (let kind = six-kind rules (OverlapDmr i) other in absurd (six≢dmr kind.0 kind.1 i kind.2))
        | inr here ↦ from_dmr rules dmr i here.1
      ]
    ]

pub overlap_dmr-least : (rules : List Rule) (dmr : Dmr) (i : ℕ) → refusal_of rules dmr ≡ Some (OverlapDmr i) → IsFirstPlace (clash_dmr dmr) rules i
overlap_dmr-least rules dmr i refused = overlap_dmr-found rules dmr i (overlap-fault rules dmr (OverlapDmr i) (many≢dmr i) refused)

-- valid rules aren't refused
all-None : {X : Type 0} (a b c d : Option X) → a ≡ None → b ≡ None → c ≡ None → d ≡ None → option_or a (option_or b (option_or c d)) ≡ None
all-None a b c d is_a is_b is_c is_d = rw (is_a, is_b, is_c, is_d) refl

pub valid-accepted : (rules : List Rule) (dmr : Dmr) → IsValid rules dmr → refusal_of rules dmr ≡ None
valid-accepted rules dmr valid =
    let fits : nat_lt 256 (length rules) ≡ false = (let few : length rules ≤ 256 = valid.few in grind (arith, nat_tests)) in
    let many : too_many rules ≡ None = ap (λ b. if b then Some TooManyRules else None) fits in
    all-None (too_many rules) (four rules) (six rules) (dmr_at rules dmr) many (ap (λ o. option_map (λ p. Overlap4 p.0 p.1) o) (no_pair clash4 rules (first_pair clash4 rules) refl valid.apart4)) (ap (λ o. option_map (λ p. Overlap6 p.0 p.1) o) (no_pair clash6 rules (first_pair clash6 rules) refl valid.apart6)) (ap (λ o. option_map OverlapDmr o) (none_in-dmr dmr rules (position (clash_dmr dmr) rules) refl valid.apart_dmr))

pub valid-exactly : (rules : List Rule) (dmr : Dmr) → refusal_of rules dmr ≡ None ↔ IsValid rules dmr
valid-exactly rules dmr = (valid-unless_refused rules dmr, valid-accepted rules dmr)
