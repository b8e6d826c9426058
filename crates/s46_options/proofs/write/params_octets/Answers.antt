use Rattle.std.proofs.Common.{arith}
use Rattle.s46_options.proofs.Contents.{psid_fits}
use Rattle.s46_options.proofs.write.params_octets.Goals as goal

pub overflow_cast-bits-2 : goal.overflow_cast-bits-2
overflow_cast-bits-2 c =
    omega (arith, psid_fits c.args.psid_len c.args.psid c.from.result c.requires.len c.requires.psid c.from.ensures)
