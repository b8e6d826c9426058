use Rattle.trace_text.proofs.laws.an_edge_sends_what_its_machine_lets_out.Goals as goal

pub returns : goal.returns
returns k = λ node from port src6 dst6 freed p octets hop is. is
