use Rattle.trace_text.proofs.Answering.{own_in, freed_in_too}
use Rattle.trace_text.proofs.laws.an_answer_in_is_for_its_key.Goals as goal

pub returns-clause-own : goal.returns-clause-own
returns-clause-own c = λ step q octets answer is. own_in step q octets answer is

pub returns-clause-freed : goal.returns-clause-freed
returns-clause-freed c = λ step first q one other answer is_first is_q part_first part_q same is. freed_in_too step first q one other answer is_first is_q part_first part_q same is
