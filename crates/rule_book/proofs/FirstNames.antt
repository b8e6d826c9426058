-- The name of an edge stands at the place of the first prefix whose edge it is.
use Rattle.std.proofs.Common.{◌≡◌, ℕ, zero, suc, ◌<◌, Bool, true, false, cond, List, [], ◌∷◌, length, get_or, refl, ap, ◌∙◌, arith}
use Rattle.std.specs.Prelude.{codes}
use Rattle.octets.specs.Place.{IsFirstPlace}
use Rattle.octets.specs.declared.prefix.Prefix6.{Prefix6}
use Rattle.map_rules.specs.declared.rule.Rule.{Rule}
use Rattle.rule_book.specs.Text.{has_own, edge_name}

fails : (b : Bool) → ¬ (b ≡ true) → b ≡ false
fails true never = absurd (never refl)
fails false never = refl

pub name-first : (rules : List Rule) (prefixes : List Prefix6) (names : List (List ℕ)) (own place : ℕ) → length prefixes ≡ length names → IsFirstPlace (has_own rules own) prefixes place → edge_name rules prefixes names own ≡ get_or names place []
name-first rules [] names own place same first = absurd (omega (arith, first.within))
name-first rules (p ∷ prefixes) [] own place same first = absurd (omega arith)
name-first rules (p ∷ prefixes) (n ∷ names) own zero same first =
    ap (λ b. cond b n (edge_name rules prefixes names own)) (first.passes p)
name-first rules (p ∷ prefixes) (n ∷ names) own (suc place) same first =
    let other : has_own rules own p ≡ false = fails (has_own rules own p) (first.none_before 0 p (omega arith) (omega arith)) in
    let later : IsFirstPlace (has_own rules own) prefixes place = record {
      within = omega (arith, first.within);
      passes = first.passes;
      none_before = λ k d least before. first.none_before (suc k) d (omega arith) (omega arith);
    } in
    ap (λ b. cond b n (edge_name rules prefixes names own)) other ∙ name-first rules prefixes names own place (omega arith) later

pub name-none : (rules : List Rule) (prefixes : List Prefix6) (names : List (List ℕ)) (own : ℕ) → ((k : ℕ) (d : Prefix6) → k < length prefixes → ¬ (has_own rules own (get_or prefixes k d) ≡ true)) → edge_name rules prefixes names own ≡ codes "-"
name-none rules [] names own none = refl
name-none rules (p ∷ prefixes) [] own none = refl
name-none rules (p ∷ prefixes) (n ∷ names) own none =
    ap (λ b. cond b n (edge_name rules prefixes names own)) (fails (has_own rules own p) (none 0 p (omega arith))) ∙ name-none rules prefixes names own (λ k d within. none (suc k) d (omega arith))
