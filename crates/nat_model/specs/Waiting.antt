-- The parcels that an answer frees.
use Rattle.std.specs.Prelude.{◌≡◌, ◌⊎◌, List, []}
use Rattle.octets.specs.declared.parcel.Parcel.{Parcel}
use Rattle.nat_model.specs.declared.answer.Answer.{Answer}
use Rattle.nat_model.specs.declared.answer.Answer.TheVariants.{Out, Turn, In, Kept, Held, Refused}

-- the fragments that waited for a first one
abbrev pub freed_of : Answer → List Parcel
freed_of (Out from port src6 dst6 freed) = freed
freed_of (Turn from port freed) = freed
freed_of (In to port from peer freed) = freed
freed_of (Kept port until) = []
freed_of Held = []
freed_of (Refused cause freed) = freed

-- the answer frees these, or none
abbrev pub FreesAtMost : List Parcel → Answer → Type 0
FreesAtMost parcels answer = (freed_of answer ≡ []) ⊎ (freed_of answer ≡ parcels)
