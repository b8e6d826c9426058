use Rattle.trace_text.proofs.Hops.{crossed_to_relay, crossed_from_relay, crossed_between_edges}
use Rattle.trace_text.proofs.laws.what_two_hops_send_is_a_crossing.Goals as goal

pub returns-clause-to_relay : goal.returns-clause-to_relay
returns-clause-to_relay c = λ setting edge relay octets six four are lets emits relay_is numbered delivers. crossed_to_relay setting edge relay octets six four are lets emits relay_is numbered delivers

pub returns-clause-from_relay : goal.returns-clause-from_relay
returns-clause-from_relay c = λ setting relay edge id octets six four are relay_is fit emits lets delivers. crossed_from_relay setting relay edge id octets six four are relay_is fit emits lets delivers

pub returns-clause-between_edges : goal.returns-clause-between_edges
returns-clause-between_edges c = λ setting one other id octets six four are lets emits takes delivers. crossed_between_edges setting one other id octets six four are lets emits takes delivers
