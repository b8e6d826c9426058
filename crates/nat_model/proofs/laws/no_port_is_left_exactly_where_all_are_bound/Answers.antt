use Rattle.nat_model.proofs.WholeSteps.{no_port-full, full-no_port}
use Rattle.nat_model.proofs.laws.no_port_is_left_exactly_where_all_are_bound.Goals as goal

pub returns : goal.returns
returns c h wish bs lt = (no_port-full h wish bs, full-no_port h wish bs lt)
