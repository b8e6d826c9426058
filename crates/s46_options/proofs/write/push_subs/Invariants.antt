use Rattle.std.proofs.Common.{◌≡◌, ◌++◌, true, map, take}
use Rattle.std.specs.List.{list_all}
use Rattle.s46_options.specs.Options.{spelled_all}
use Rattle.s46_options.specs.Items.{sub_option, sub_in_fields}
use Rattle.s46_options.proofs.write.push_subs.Given as goal

-- the options so far
abbrev pub invariant-loop-sub : goal.invariant-loop-sub
invariant-loop-sub l = record {
  octets : l.out ≡ l.initial.out ++ spelled_all (map sub_option (take l.sub-index l.subs));
  fields : list_all sub_in_fields (take l.sub-index l.subs) ≡ true;
}
