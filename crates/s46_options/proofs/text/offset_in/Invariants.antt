use Rattle.std.proofs.Common.{◌≡◌, drop}
use Rattle.s46_options.specs.Text.{offset_in}
use Rattle.s46_options.proofs.text.offset_in.Given as goal

-- those so far are no port parameters
abbrev pub invariant-loop-sub : goal.invariant-loop-sub
invariant-loop-sub l = offset_in l.subs ≡ offset_in (drop l.sub-index l.subs)
