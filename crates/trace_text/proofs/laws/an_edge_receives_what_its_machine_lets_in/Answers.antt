use Rattle.trace_text.proofs.laws.an_edge_receives_what_its_machine_lets_in.Goals as goal

pub returns : goal.returns
returns k = λ node to port from peer freed q six hop is. is
