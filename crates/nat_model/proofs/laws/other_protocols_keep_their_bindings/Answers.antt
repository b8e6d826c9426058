use Rattle.nat_model.proofs.Others.{nat-others}
use Rattle.nat_model.proofs.laws.other_protocols_keep_their_bindings.Goals as goal

pub returns : goal.returns
returns c = nat-others
