use Rattle.std.proofs.Common.{◌≡◌, true, take}
use Rattle.std.specs.List.{list_all}
use Rattle.s46_options.specs.Items.{inside_octets, item_in_fields}
use Rattle.s46_options.proofs.write.inside.Given as goal

-- the options so far
abbrev pub invariant-loop-item : goal.invariant-loop-item
invariant-loop-item l = record {
  octets : l.inside ≡ inside_octets (take l.item-index l.items);
  fields : list_all item_in_fields (take l.item-index l.items) ≡ true;
}
