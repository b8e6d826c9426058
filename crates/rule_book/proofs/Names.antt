-- The search for the name of an edge, one prefix at a time.
use Rattle.std.proofs.Common.{◌≡◌, ℕ, ◌+◌, ◌<◌, false, cond, List, [], ◌∷◌, length, get_or, drop, sym, ap, ◌∙◌}
use Rattle.std.proofs.lemmas.List.{drop_more}
use Rattle.octets.specs.declared.prefix.Prefix6.{Prefix6}
use Rattle.map_rules.specs.declared.rule.Rule.{Rule}
use Rattle.rule_book.specs.Text.{has_own, edge_name}

pub edge_name-next : (rules : List Rule) (prefixes : List Prefix6) (names : List (List ℕ)) (own at : ℕ) (p : Prefix6) (found : List ℕ) → at < length prefixes → at < length names → p ≡ get_or prefixes at p → has_own rules own p ≡ false → edge_name rules (drop at prefixes) (drop at names) own ≡ found → edge_name rules (drop (at + 1) prefixes) (drop (at + 1) names) own ≡ found
edge_name-next rules prefixes names own at p found in_prefixes in_names is other so_far =
    let n : List ℕ = get_or names at [] in
    let next : List ℕ = edge_name rules (drop (at + 1) prefixes) (drop (at + 1) names) own in
    let ps : drop at prefixes ≡ p ∷ drop (at + 1) prefixes = drop_more prefixes at p in_prefixes ∙ ap (λ x. x ∷ drop (at + 1) prefixes) (sym is) in
    let ns : drop at names ≡ n ∷ drop (at + 1) names = drop_more names at [] in_names in
    let both : edge_name rules (drop at prefixes) (drop at names) own ≡ edge_name rules (p ∷ drop (at + 1) prefixes) (n ∷ drop (at + 1) names) own = ap (λ xs. edge_name rules xs (drop at names) own) ps ∙ ap (λ xs. edge_name rules (p ∷ drop (at + 1) prefixes) xs own) ns in
    sym (both ∙ ap (λ b. cond b n next) other) ∙ so_far
