use Rattle.std.proofs.Common.{arith}
use Rattle.s46_options.proofs.prefixes.push_prefix6.Goals as goal

pub returns-clause-bits : goal.returns-clause-bits
returns-clause-bits c = omega arith
