-- What the code's replay is given, as the definitions have it.
use Rattle.mapt_tool.specs.declared.replay.Target.{Target as GivenTarget}
use Rattle.mapt_tool.specs.Replay.{Target}

abbrev pub target_of : GivenTarget → Target
target_of to = record { prefix = to.prefix.now; left = to.left }
