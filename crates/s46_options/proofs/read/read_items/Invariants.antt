use Rattle.std.proofs.Common.{◌≡◌, ◌≤◌, true, cond, [], map, take, drop}
use Rattle.std.specs.List.{list_all, list_any, count_by, AllZip}
use Rattle.s46_options.specs.Reading.{ReadsItem}
use Rattle.s46_options.specs.Raw.{options_of}
use Rattle.s46_options.specs.Items.{item_option}
use Rattle.s46_options.specs.Accepted.{item_fits}
use Rattle.s46_options.specs.Faults.{has_code, place_behind, item_faults, each_faults}
use Rattle.s46_options.proofs.read.read_items.Given as goal

-- the options so far are the items, in which nothing is wrong
abbrev pub invariant-loop-option : goal.invariant-loop-option
invariant-loop-option l = record {
  walk : each_faults item_faults 4 [] (options_of l.parts.options.items) ≡ each_faults item_faults 4 (options_of (take l.option-index l.parts.options.items)) (options_of (drop l.option-index l.parts.options.items));
  place : l.place ≡ place_behind 4 (options_of (take l.option-index l.parts.options.items));
  rules : l.seen.rules ≡ count_by (has_code 89) (options_of (take l.option-index l.parts.options.items));
  few : l.seen.rules ≤ 256;
  dmr : l.seen.dmr ≡ list_any (has_code 91) (options_of (take l.option-index l.parts.options.items));
  once : count_by (has_code 91) (options_of (take l.option-index l.parts.options.items)) ≡ cond l.seen.dmr 1 0;
  items : map item_option l.items.items ≡ options_of (take l.option-index l.parts.options.items);
  reads : AllZip ReadsItem (options_of (take l.option-index l.parts.options.items)) l.items.items;
  fits : list_all item_fits l.items.items ≡ true;
}
