use Rattle.std.proofs.Common.{arith}
use Rattle.octets.proofs.Numerals.{decimal-one, decimal-two, decimal-three}
use Rattle.octets.proofs.numeral.push_decimal.Goals as goal
use Rattle.octets.proofs.numeral.push_decimal.Goals.{then-number-lt10, else-number-lt10+then-number-lt100, else-number-lt10+else-number-lt100}

pub returns : goal.returns
returns c =
    elim c.if-number-lt10.branch [
      | then-number-lt10 w ↦ rw (decimal-one c.args.number w.if-number-lt10.true) (rw w.leading_zeros-is at c.extend.ensures.ok)
      | else-number-lt10+then-number-lt100 w ↦ rw (decimal-two c.args.number w.if-number-lt100.true w.if-number-lt10.false) (rw w.leading_zeros-is at c.extend.ensures.ok)
      | else-number-lt10+else-number-lt100 w ↦ rw (decimal-three c.args.number (omega arith) w.if-number-lt100.false) (rw w.leading_zeros-is at c.extend.ensures.ok)
    ]
