use Rattle.trace_text.proofs.Numbers.{answer_fits, state_fits, answers_fit, history_fits}
use Rattle.trace_text.proofs.laws.numbers_stay_in_their_fields.Goals as goal

pub returns-clause-answer : goal.returns-clause-answer
returns-clause-answer c = λ prefix s m ask book fits asks. answer_fits prefix s m ask book fits asks

pub returns-clause-state : goal.returns-clause-state
returns-clause-state c = λ prefix s m ask book fits asks. state_fits prefix s m ask book fits asks

pub returns-clause-history : goal.returns-clause-history
returns-clause-history c = λ start books entries fits asks good. answers_fit start books entries fits asks good

pub returns-clause-reached : goal.returns-clause-reached
returns-clause-reached c = λ start books entries fits asks. history_fits start books entries fits asks
