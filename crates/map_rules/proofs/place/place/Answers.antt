use Rattle.std.proofs.Common.{arith, ◌-◌, ◌+◌}
use Rattle.map_rules.proofs.Parts.{shift-fits}
use Rattle.map_rules.proofs.place.place.Goals as goal

pub returns : goal.returns
returns c = shift-fits c.args.x c.args.count (128 - (c.args.from + c.args.count)) 128 c.requires.number (omega (arith, c.requires.bits))
