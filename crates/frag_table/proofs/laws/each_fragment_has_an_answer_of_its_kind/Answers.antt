use Rattle.frag_table.proofs.AnswerKinds.{frag-kind, frag-some}
use Rattle.frag_table.proofs.laws.each_fragment_has_an_answer_of_its_kind.Goals as goal

pub returns-clause-kind : goal.returns-clause-kind
returns-clause-kind c = frag-kind

pub returns-clause-released : goal.returns-clause-released
returns-clause-released c = frag-some
