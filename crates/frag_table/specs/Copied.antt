-- The asks and answers whose copy takes no memory.
use Rattle.std.specs.Prelude.{◌≡◌, []}
use Rattle.frag_table.specs.declared.ask.FragAsk.{FragAsk}
use Rattle.frag_table.specs.declared.ask.FragAsk.TheVariants.{First, Later}
use Rattle.frag_table.specs.declared.answer.FragAnswer.{FragAnswer}
use Rattle.frag_table.specs.declared.answer.FragAnswer.TheVariants.{Noted, Known, Held, Released, Full}

-- the ask carries no octets
abbrev pub AskHasNoOctets : FragAsk → Type 0
AskHasNoOctets (First key ports) = Unit {0}
AskHasNoOctets (Later key octets) = octets ≡ []

-- the answer carries no parcels
abbrev pub AnswerHasNoParcels : FragAnswer → Type 0
AnswerHasNoParcels Noted = Unit {0}
AnswerHasNoParcels (Known ports) = Unit {0}
AnswerHasNoParcels Held = Unit {0}
AnswerHasNoParcels (Released parcels) = parcels ≡ []
AnswerHasNoParcels Full = Unit {0}
