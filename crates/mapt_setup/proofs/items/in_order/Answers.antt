use Rattle.std.proofs.Common.{◌≡◌, List, subst, rules}
use Rattle.std.specs.List.Sorted.{IsStable}
use Rattle.std.proofs.lemmas.Fn.{always_returns_same}
use Rattle.mapt_setup.specs.declared.script.ScriptItem.{ScriptItem}
use Rattle.mapt_setup.specs.Script.{item_time, item_kind, item_edge, all_items, order}
use Rattle.mapt_setup.proofs.items.in_order.Goals as goal

pub returns-clause-sorted : goal.returns-clause-sorted
returns-clause-sorted c =
    c.in_ok-sort_by_cached_key.ensures.sorted (λ (x : ScriptItem). (item_time c.args.changes.now x, (item_kind x, item_edge x))) (always_returns_same _ (λ a r. r ≡ (item_time c.args.changes.now a.0.now, (item_kind a.0.now, item_edge a.0.now))) _ (λ a r f' k. search rules))

pub returns-clause-stable : goal.returns-clause-stable
returns-clause-stable c =
    let Stays : List ScriptItem → Type 0 = λ before. IsStable (order c.args.changes.now) before c.sort_by_cached_key.new.self.items in
    let same : c.add_captures.new.items.items ≡ all_items c.args.changes.now c.args.captures.now = search rules in
    subst Stays same (c.in_ok-sort_by_cached_key.ensures.stable (λ (x : ScriptItem). (item_time c.args.changes.now x, (item_kind x, item_edge x))) (always_returns_same _ (λ a r. r ≡ (item_time c.args.changes.now a.0.now, (item_kind a.0.now, item_edge a.0.now))) _ (λ a r f' k. search rules)))
