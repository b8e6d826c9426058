use Rattle.nat_model.proofs.AnswerKinds.{nat-kind, nat-cause, nat-held, nat-first}
use Rattle.nat_model.proofs.laws.each_ask_has_an_answer_of_its_kind.Goals as goal

pub returns-clause-kind : goal.returns-clause-kind
returns-clause-kind c = nat-kind

pub returns-clause-cause : goal.returns-clause-cause
returns-clause-cause c = nat-cause

pub returns-clause-held : goal.returns-clause-held
returns-clause-held c = nat-held

pub returns-clause-freed : goal.returns-clause-freed
returns-clause-freed c = nat-first
