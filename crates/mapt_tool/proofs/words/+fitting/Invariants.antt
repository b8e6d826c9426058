use Rattle.std.proofs.Common.{length}
use Rattle.mapt_tool.proofs.words.+fitting.Given as goal

abbrev pub decreases-fitting : goal.decreases-fitting
decreases-fitting l = length l.form.now
