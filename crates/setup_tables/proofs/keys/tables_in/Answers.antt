use Rattle.std.proofs.Common.{◌≡◌, map, Some, true, false, rules}
use Rattle.std.specs.List.{list_all}
use Rattle.toml.specs.Data.{as_array}
use Rattle.toml.specs.View.{view, items_view}
use Rattle.setup_tables.specs.Keys.{is_table}
use Rattle.setup_tables.proofs.Seen.{elements-items_of, all_tables-view}
use Rattle.setup_tables.proofs.keys.tables_in.Goals as goal

pub returns-then-not-are_tables : goal.returns-then-not-are_tables
returns-then-not-are_tables c =
    let array : Some (items_view c.in_ok-as_array.field-0.now.items) ≡ as_array (view c.args.value.now) = c.in_ok-as_array.ensures in
    let none : list_all is_table (map view c.in_ok-as_array.field-0.now.items) ≡ false = rw all_tables-view (search rules) in
    rw (← array, elements-items_of, none)

pub returns : goal.returns
returns c =
    let array : Some (items_view c.in_ok-as_array.field-0.now.items) ≡ as_array (view c.args.value.now) = c.in_ok-as_array.ensures in
    let all : list_all is_table (map view c.in_ok-as_array.field-0.now.items) ≡ true = rw all_tables-view (search rules) in
    rw (c.as_slice-values.ensures.value, ← array, elements-items_of, all)
