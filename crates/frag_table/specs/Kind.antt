-- The kinds of answers: which ones a fragment may have.
use Rattle.frag_table.specs.declared.ask.FragAsk.{FragAsk}
use Rattle.frag_table.specs.declared.ask.FragAsk.TheVariants.{First, Later}
use Rattle.frag_table.specs.declared.answer.FragAnswer.{FragAnswer}
use Rattle.frag_table.specs.declared.answer.FragAnswer.TheVariants.{Noted, Known, Held, Released, Full}

-- a first fragment is noted, releases those that waited for it, or finds no room; a later one is told its ports, waits, or
-- finds no room
abbrev pub IsFragAnswerTo : FragAsk → FragAnswer → Type 0
IsFragAnswerTo (First key ports) Noted = Unit {0}
IsFragAnswerTo (First key ports) (Known known) = ⊥
IsFragAnswerTo (First key ports) Held = ⊥
IsFragAnswerTo (First key ports) (Released parcels) = Unit {0}
IsFragAnswerTo (First key ports) Full = Unit {0}
IsFragAnswerTo (Later key octets) Noted = ⊥
IsFragAnswerTo (Later key octets) (Known known) = Unit {0}
IsFragAnswerTo (Later key octets) Held = Unit {0}
IsFragAnswerTo (Later key octets) (Released parcels) = ⊥
IsFragAnswerTo (Later key octets) Full = Unit {0}
