-- The asks and answers whose copy takes no memory.
use Rattle.std.specs.Prelude.{◌≡◌, []}
use Rattle.nat_model.specs.declared.ask.Part.{Part}
use Rattle.nat_model.specs.declared.ask.Part.TheVariants.{Whole, First, Later}
use Rattle.nat_model.specs.declared.ask.Ask.{Ask}
use Rattle.nat_model.specs.declared.ask.Ask.TheVariants.{Outward, Inward, Keep}
use Rattle.nat_model.specs.declared.answer.Answer.{Answer}
use Rattle.nat_model.specs.declared.answer.Answer.TheVariants.{Out, Turn, In, Kept, Held, Refused}

-- the part carries no octets
abbrev pub PartHasNoOctets : Part → Type 0
PartHasNoOctets Whole = Unit {0}
PartHasNoOctets (First key) = Unit {0}
PartHasNoOctets (Later key octets) = octets ≡ []

-- the ask carries no octets
abbrev pub AskHasNoOctets : Ask → Type 0
AskHasNoOctets (Outward fault proto near far flags part) = PartHasNoOctets part
AskHasNoOctets (Inward fault proto port far flags part) = PartHasNoOctets part
AskHasNoOctets (Keep proto host host_port port until) = Unit {0}

-- the answer carries no parcels
abbrev pub AnswerHasNoParcels : Answer → Type 0
AnswerHasNoParcels (Out from port src6 dst6 freed) = freed ≡ []
AnswerHasNoParcels (Turn from port freed) = freed ≡ []
AnswerHasNoParcels (In to port from peer freed) = freed ≡ []
AnswerHasNoParcels (Kept port until) = Unit {0}
AnswerHasNoParcels Held = Unit {0}
AnswerHasNoParcels (Refused cause freed) = freed ≡ []
