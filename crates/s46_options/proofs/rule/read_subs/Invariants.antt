use Rattle.std.proofs.Common.{◌≡◌, true, cond, [], map, take, drop}
use Rattle.std.specs.List.{list_all, list_any, count_by, AllZip}
use Rattle.s46_options.specs.Reading.{ReadsSub}
use Rattle.s46_options.specs.Raw.{options_of}
use Rattle.s46_options.specs.Items.{sub_option}
use Rattle.s46_options.specs.Accepted.{sub_fits}
use Rattle.s46_options.specs.Faults.{has_code, place_behind, sub_faults, each_faults}
use Rattle.s46_options.proofs.rule.read_subs.Given as goal

-- the options so far are the subs, in which nothing is wrong
abbrev pub invariant-loop-option : goal.invariant-loop-option
invariant-loop-option l = record {
  walk : each_faults sub_faults l.at [] (options_of l.parts.options.items) ≡ each_faults sub_faults l.at (options_of (take l.option-index l.parts.options.items)) (options_of (drop l.option-index l.parts.options.items));
  place : l.place ≡ place_behind l.at (options_of (take l.option-index l.parts.options.items));
  second : l.second ≡ list_any (has_code 93) (options_of (take l.option-index l.parts.options.items));
  once : count_by (has_code 93) (options_of (take l.option-index l.parts.options.items)) ≡ cond l.second 1 0;
  subs : map sub_option l.subs.items ≡ options_of (take l.option-index l.parts.options.items);
  reads : AllZip ReadsSub (options_of (take l.option-index l.parts.options.items)) l.subs.items;
  fits : list_all sub_fits l.subs.items ≡ true;
}
