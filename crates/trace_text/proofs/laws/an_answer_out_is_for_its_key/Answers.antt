use Rattle.trace_text.proofs.Answering.{own_out, freed_out_too}
use Rattle.trace_text.proofs.laws.an_answer_out_is_for_its_key.Goals as goal

pub returns-clause-own : goal.returns-clause-own
returns-clause-own c = λ step p octets answer is. own_out step p octets answer is

pub returns-clause-freed : goal.returns-clause-freed
returns-clause-freed c = λ step first p answer same is. freed_out_too step first p answer same is
