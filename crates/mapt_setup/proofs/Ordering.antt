-- The order of a script is one: total, with a strict weak order of what comes before what.
use Rattle.std.proofs.Common.{List}
use Rattle.std.specs.Cmp.{IsTotalOrder, IsStrictWeakOrder, then_total, nat_cmp_total, on_total}
use Rattle.std.specs.Ordering.{is_lt}
use Rattle.std.proofs.lemmas.List.Sorted.{ranks_by}
use Rattle.mapt_setup.specs.declared.moves.MoveLine.{MoveLine}
use Rattle.mapt_setup.specs.declared.script.ScriptItem.{ScriptItem}
use Rattle.mapt_setup.specs.Script.{item_time, item_kind, item_edge, order}

order_total : (changes : List MoveLine) → IsTotalOrder (order changes)
order_total changes = then_total (on_total (item_time changes) nat_cmp_total) (then_total (on_total item_kind nat_cmp_total) (on_total item_edge nat_cmp_total))

pub order_ranks : (changes : List MoveLine) → IsStrictWeakOrder (λ x y. is_lt (order changes x y))
order_ranks changes = ranks_by (order_total changes) (λ (x : ScriptItem). x)
