use Rattle.std.proofs.Common.{◌-◌, arith}
use Rattle.std.proofs.lemmas.Option.{slice_get_past}
use Rattle.octets.specs.Cause.{causes}
use Rattle.octets.proofs.cause.Cause.from_number.Goals as goal

pub returns-else-at-lt23 : goal.returns-else-at-lt23
returns-else-at-lt23 c =
    let past = slice_get_past causes (c.args.number - 1) (omega arith) in
    grind (arith, past)
