-- The search for two rules that clash, one later rule at a time.
use Rattle.std.proofs.Common.{◌≡◌, ℕ, ◌+◌, ◌<◌, ◌≤◌, Bool, List, [], ◌∷◌, ◌++◌, length, get_or, take, drop, sym, ap, ◌∙◌, arith}
use Rattle.std.specs.Prelude.{Some, None}
use Rattle.std.specs.Option.{option_or, option_map}
use Rattle.std.specs.List.{position}
use Rattle.std.proofs.lemmas.List.{take_more, drop_more, drop_all, length-take-le}
use Rattle.map_rules.specs.declared.rule.Rule.{Rule}
use Rattle.rule_book.specs.Refusal.{pair_after, first_pair}

-- the pair that stands here or later, by what the rule at place j clashes with
pub pair_after-drop : (clash : Rule → Rule → Bool) (rules : List Rule) (j : ℕ) (r : Rule) → j < length rules → r ≡ get_or rules j r → pair_after clash (take j rules) (drop j rules) ≡ option_or (option_map (λ i. (i, j)) (position (λ s. clash s r) (take j rules))) (pair_after clash (take (j + 1) rules) (drop (j + 1) rules))
pair_after-drop clash rules j r within is =
    let rest : drop j rules ≡ r ∷ drop (j + 1) rules = drop_more rules j r within ∙ ap (λ x. x ∷ drop (j + 1) rules) (sym is) in
    let before : take (j + 1) rules ≡ take j rules ++ r ∷ [] = take_more rules j r within ∙ ap (λ x. take j rules ++ x ∷ []) (sym is) in
    let len : length (take j rules) ≡ j = length-take-le j rules (omega arith) in
    ap (λ xs. pair_after clash (take j rules) xs) rest ∙ ap (λ n. option_or (option_map (λ i. (i, n)) (position (λ s. clash s r) (take j rules))) (pair_after clash (take j rules ++ r ∷ []) (drop (j + 1) rules))) len ∙ ap (λ xs. option_or (option_map (λ i. (i, j)) (position (λ s. clash s r) (take j rules))) (pair_after clash xs (drop (j + 1) rules))) (sym before)

pub pair_after-found : (clash : Rule → Rule → Bool) (rules : List Rule) (j : ℕ) (r : Rule) (i : ℕ) → j < length rules → r ≡ get_or rules j r → position (λ s. clash s r) (take j rules) ≡ Some i → pair_after clash (take j rules) (drop j rules) ≡ first_pair clash rules → Some (i, j) ≡ first_pair clash rules
pair_after-found clash rules j r i within is found so_far =
    sym (ap (λ o. option_or (option_map (λ i. (i, j)) o) (pair_after clash (take (j + 1) rules) (drop (j + 1) rules))) found) ∙ sym (pair_after-drop clash rules j r within is) ∙ so_far

pub pair_after-next : (clash : Rule → Rule → Bool) (rules : List Rule) (j : ℕ) (r : Rule) → j < length rules → r ≡ get_or rules j r → position (λ s. clash s r) (take j rules) ≡ None → pair_after clash (take j rules) (drop j rules) ≡ first_pair clash rules → pair_after clash (take (j + 1) rules) (drop (j + 1) rules) ≡ first_pair clash rules
pair_after-next clash rules j r within is none so_far =
    sym (ap (λ o. option_or (option_map (λ i. (i, j)) o) (pair_after clash (take (j + 1) rules) (drop (j + 1) rules))) none) ∙ sym (pair_after-drop clash rules j r within is) ∙ so_far

pub pair_after-end : (clash : Rule → Rule → Bool) (rules : List Rule) (j : ℕ) → length rules ≤ j → pair_after clash (take j rules) (drop j rules) ≡ None
pair_after-end clash rules j past = ap (λ xs. pair_after clash (take j rules) xs) (drop_all j rules past)
