use Rattle.trace_text.proofs.Fits.{ask_fits}
use Rattle.trace_text.proofs.laws.numbers_of_an_ask_fit.Goals as goal

pub returns : goal.returns
returns k = λ way octets ask are is. ask_fits way octets ask are is
