use Rattle.mapt_setup.proofs.OneReading.{one_setup}
use Rattle.mapt_setup.proofs.laws.octets_have_at_most_one_answer.Goals as goal

pub returns : goal.returns
returns c = one_setup
