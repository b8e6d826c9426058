use Rattle.nat_model.proofs.EachStep.{nat-sound}
use Rattle.nat_model.proofs.WholeSteps.{run-sound}
use Rattle.nat_model.proofs.laws.two_bindings_never_share_a_port.Goals as goal

pub returns-clause-step : goal.returns-clause-step
returns-clause-step c = nat-sound

pub returns-clause-run : goal.returns-clause-run
returns-clause-run c = run-sound
