use Rattle.std.proofs.Common.{ap}
use Rattle.frag_table.specs.Frag.{FragStep, frag}
use Rattle.frag_table.proofs.table.FragTable.take.Goals as goal

pub returns-clause-answer : goal.returns-clause-answer
unfolding frag
returns-clause-answer c =
    let answer_of = λ (s : FragStep). s.answer in
    rw (← c.self.view_is, ← c.max-clock.ensures) (ap answer_of c.in_ok-answer.ensures.step)

pub returns-clause-after : goal.returns-clause-after
unfolding frag
returns-clause-after c =
    let after_of = λ (s : FragStep). s.after in
    rw (c.expire.ensures, ← c.self.view_is, ← c.max-clock.ensures) (ap after_of c.in_ok-answer.ensures.step)
