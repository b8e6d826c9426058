-- A container has at most 256 lines of rules.
use Rattle.std.proofs.Common.{◌≡◌, ◌≤◌, ◌+◌, ℕ, true, cond, List, [], ◌∷◌, length, refl, arith}
use Rattle.std.specs.List.{count_by}
use Rattle.std.proofs.lemmas.Bool.{and_parts, leb-true}
use Rattle.std.proofs.lemmas.List.{length-append}
use Rattle.std.proofs.lemmas.List.Sums.{sum_by-cons}
use Rattle.s46_options.specs.declared.item.Item.{Item}
use Rattle.s46_options.specs.declared.item.Item.TheVariants as item
use Rattle.s46_options.specs.Accepted.{is_rule, is_accepted}
use Rattle.setup_tables.specs.Lines.{line_of, lines_in}

one_line : (x : Item) → length (line_of x) ≡ cond {A = ℕ} (is_rule x) 1 0
one_line (item.Rule flag ea prefix4 prefix6 subs) = refl
one_line (item.Dmr prefix) = refl
one_line (item.Other code octets) = refl

a_line_a_rule : (items : List Item) → length (lines_in items) ≡ count_by is_rule items
a_line_a_rule [] = refl
a_line_a_rule (x ∷ items) =
    let parts : count_by is_rule (x ∷ items) ≡ cond {A = ℕ} (is_rule x) 1 0 + count_by is_rule items = sum_by-cons (λ (y : Item). cond {A = ℕ} (is_rule y) 1 0) x items in
    omega (arith, length-append (line_of x) (lines_in items), one_line x, a_line_a_rule items, parts)

pub lines_few : (items : List Item) → is_accepted items ≡ true → length (lines_in items) ≤ 256
lines_few items h =
    let rest = (and_parts _ _ ((and_parts _ _ h).1)).1 in
    let most = leb-true (count_by is_rule items) 256 ((and_parts _ _ rest).0) in
    omega (arith, a_line_a_rule items, most)
