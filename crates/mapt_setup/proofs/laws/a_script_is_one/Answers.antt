use Rattle.mapt_setup.proofs.OneScript.{one_script}
use Rattle.mapt_setup.proofs.laws.a_script_is_one.Goals as goal

pub returns : goal.returns
returns c = one_script
