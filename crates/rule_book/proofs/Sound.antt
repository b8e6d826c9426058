-- Rules that aren't refused are valid.
use Rattle.std.proofs.Common.{◌≡◌, ◌≤◌, Bool, true, false, IsTrue, List, [], ◌∷◌, ◌++◌, length, refl, sym, subst, ◌∙◌, arith, append_assoc, append-nil}
use Rattle.std.specs.Prelude.{Option, Some, None, nat_lt, if◌then◌else◌}
use Rattle.std.specs.Option.{option_or, option_map}
use Rattle.std.specs.List.{position, AllPairs}
use Rattle.std.proofs.lemmas.List.Quantifiers.{all_pairs_push}
use Rattle.std.proofs.lemmas.Bool.{false≢true}
use Rattle.std.proofs.lemmas.Bool.Decides.{nat_tests}
use Rattle.map_rules.specs.declared.rule.Rule.{Rule}
use Rattle.map_rules.specs.declared.dmr.Dmr.{Dmr}
use Rattle.rule_book.specs.declared.fault.BookFault.{BookFault}
use Rattle.rule_book.specs.declared.fault.BookFault.TheVariants.{Overlap4, Overlap6, OverlapDmr}
use Rattle.rule_book.specs.Valid.{IsValid, clash4, clash6, clash_dmr}
use Rattle.rule_book.specs.Refusal.{pair_after, first_pair, too_many, overlap_of, refusal_of}
use Rattle.octets.proofs.Places.{position-none}

-- neither of two choices was taken
pub or-None : {X : Type 0} (a b : Option X) → option_or a b ≡ None → (a ≡ None) × (b ≡ None)
or-None None b e = (refl, e)
or-None (Some x) b e = cc

pub map-None : {X Y : Type 0} (f : X → Y) (a : Option X) → option_map f a ≡ None → a ≡ None
map-None f None e = refl
map-None f (Some x) e = cc

-- no two of the rules clash
abbrev Apart : (Rule → Rule → Bool) → List Rule → Type 0
Apart clash rules = AllPairs (λ r s. ¬ IsTrue (clash r s)) rules

no_pair : (clash : Rule → Rule → Bool) (before rules : List Rule) → pair_after clash before rules ≡ None → Apart clash before → Apart clash (before ++ rules)
no_pair clash before [] none apart =
    let P : List Rule → Type 0 = λ xs. Apart clash xs in
    subst P (sym (append-nil before)) apart
no_pair clash before (r ∷ rules) none apart =
    let parts : (option_map (λ i. (i, length before)) (position (λ s. clash s r) before) ≡ None) × (pair_after clash (before ++ r ∷ []) rules ≡ None) = or-None _ _ none in
    let alone : position (λ s. clash s r) before ≡ None = map-None _ _ parts.0 in
    let joined : Apart clash (before ++ r ∷ []) = all_pairs_push (λ r s. ¬ IsTrue (clash r s)) before r apart (λ k d within yes. absurd (false≢true (sym (position-none (λ s. clash s r) before alone k d within) ∙ yes))) in
    let P : List Rule → Type 0 = λ xs. Apart clash xs in
    subst P (append_assoc before (r ∷ []) rules) (no_pair clash (before ++ r ∷ []) rules parts.1 joined)

pub first_pair-None : (clash : Rule → Rule → Bool) (rules : List Rule) → first_pair clash rules ≡ None → Apart clash rules
first_pair-None clash rules none = no_pair clash [] rules none (λ i j d before within. absurd (omega arith))

many_is : (b : Bool) (fault : BookFault) → (if b then Some fault else None) ≡ None → b ≡ false
many_is true fault e = cc
many_is false fault e = refl

not_many : (rules : List Rule) → too_many rules ≡ None → length rules ≤ 256
not_many rules none =
    let few : nat_lt 256 (length rules) ≡ false = many_is (nat_lt 256 (length rules)) _ none in
    grind (arith, nat_tests)

pub valid-unless_overlap : (rules : List Rule) (dmr : Dmr) → length rules ≤ 256 → overlap_of rules dmr ≡ None → IsValid rules dmr
valid-unless_overlap rules dmr few none =
    let four = or-None (option_map (λ p. Overlap4 p.0 p.1) (first_pair clash4 rules)) (option_or (option_map (λ p. Overlap6 p.0 p.1) (first_pair clash6 rules)) (option_map OverlapDmr (position (clash_dmr dmr) rules))) none in
    let six = or-None (option_map (λ p. Overlap6 p.0 p.1) (first_pair clash6 rules)) (option_map OverlapDmr (position (clash_dmr dmr) rules)) four.1 in
    let apart = map-None OverlapDmr (position (clash_dmr dmr) rules) six.1 in
    record {
      few = few;
      apart4 = first_pair-None clash4 rules (map-None (λ p. Overlap4 p.0 p.1) (first_pair clash4 rules) four.0);
      apart6 = first_pair-None clash6 rules (map-None (λ p. Overlap6 p.0 p.1) (first_pair clash6 rules) six.0);
      apart_dmr = λ k d within yes. absurd (false≢true (sym (position-none (clash_dmr dmr) rules apart k d within) ∙ yes));
    }

pub valid-unless_refused : (rules : List Rule) (dmr : Dmr) → refusal_of rules dmr ≡ None → IsValid rules dmr
valid-unless_refused rules dmr none =
    let all : (too_many rules ≡ None) × (overlap_of rules dmr ≡ None) = or-None (too_many rules) (overlap_of rules dmr) none in
    valid-unless_overlap rules dmr (not_many rules all.0) all.1
