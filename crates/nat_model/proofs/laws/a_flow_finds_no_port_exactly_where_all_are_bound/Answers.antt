use Rattle.nat_model.proofs.NoPort.{flow-no_port, no_port, keep-no_port}
use Rattle.nat_model.proofs.laws.a_flow_finds_no_port_exactly_where_all_are_bound.Goals as goal

pub returns-clause-flow : goal.returns-clause-flow
returns-clause-flow c = flow-no_port

pub returns-clause-whole : goal.returns-clause-whole
returns-clause-whole c = no_port

pub returns-clause-keep : goal.returns-clause-keep
returns-clause-keep c = keep-no_port
