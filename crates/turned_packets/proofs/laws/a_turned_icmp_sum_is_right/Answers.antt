use Rattle.turned_packets.specs.Turned.{turned_query, turned_error}
use Rattle.turned_packets.proofs.RightSums.{message_right}
use Rattle.turned_packets.proofs.laws.a_turned_icmp_sum_is_right.Goals as goal

pub returns-clause-query : goal.returns-clause-query
returns-clause-query c = λ new h payload m row. message_right (turned_query new m)

pub returns-clause-error : goal.returns-clause-error
returns-clause-error c = λ new h payload m row inner. message_right (turned_error new m inner)
