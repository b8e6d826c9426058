use Rattle.mapt_setup.proofs.FitCaptures.{fits_exactly}
use Rattle.mapt_setup.proofs.capture.captures_fit.Goals as goal

pub returns : goal.returns
returns c = rw c.passes.ensures (fits_exactly c.args.setup.now c.args.captures.now)
