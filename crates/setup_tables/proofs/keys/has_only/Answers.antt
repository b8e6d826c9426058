use Rattle.std.proofs.Common.{◌≡◌, ◌∙◌, sym, nat_eq, Bor, List, ℕ, true, false, rules, string_bytes}
use Rattle.std.specs.BTreeMap.{keys}
use Rattle.std.specs.List.{list_any, list_all}
use Rattle.std.specs.Cmp.Lexicographic.{pointwise}
use Rattle.setup_tables.proofs.Seen.{has_only-keys}
use Rattle.setup_tables.proofs.keys.has_only.Goals as goal

pub returns-then-not-is_among : goal.returns-then-not-is_among
returns-then-not-is_among c =
    let found : false ≡ list_all (λ key. list_any (λ (x : Bor (List ℕ)). pointwise nat_eq x.now (string_bytes key)) c.args.known.now) (keys c.args.table.now) = search rules in
    found ∙ sym (has_only-keys c.args.known.now c.args.table.now.entries)

pub returns : goal.returns
returns c =
    let found : true ≡ list_all (λ key. list_any (λ (x : Bor (List ℕ)). pointwise nat_eq x.now (string_bytes key)) c.args.known.now) (keys c.args.table.now) = search rules in
    found ∙ sym (has_only-keys c.args.known.now c.args.table.now.entries)
