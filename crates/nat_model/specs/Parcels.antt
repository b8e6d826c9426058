-- The parcels that the answers of a history free, and the entries at which they waited. An edge's history and a stripe's are
-- told alike.
use Rattle.std.specs.Prelude.{◌≡◌, ℕ, ◌<◌, Bool, true, false, IsTrue, List, Some, slice_get}
use Rattle.octets.specs.declared.parcel.Parcel.{Parcel}
use Rattle.frag_table.specs.declared.key.FragKey.{FragKey}
use Rattle.frag_table.specs.declared.ask.FragAsk.{FragAsk}
use Rattle.frag_table.specs.declared.ask.FragAsk.TheVariants.{First as FirstAsk, Later as LaterAsk}
use Rattle.frag_table.specs.declared.answer.FragAnswer.{FragAnswer}
use Rattle.frag_table.specs.declared.answer.FragAnswer.TheVariants.{Noted, Known, Held as HeldBack, Released, Full}
use Rattle.frag_table.specs.Frag.{freed_by}
use Rattle.nat_model.specs.declared.answer.Answer.{Answer}
use Rattle.nat_model.specs.declared.answer.Answer.TheVariants.{Out, Turn, In, Kept, Held, Refused}
use Rattle.nat_model.specs.declared.ask.Part.{Part}
use Rattle.nat_model.specs.declared.ask.Part.TheVariants.{First, Later}
use Rattle.nat_model.specs.declared.entry.Entry.{Entry}
use Rattle.nat_model.specs.declared.stripe.StripeEntry.{StripeEntry}
use Rattle.nat_model.specs.Fragment.{part_of}
use Rattle.nat_model.specs.Waiting.{freed_of}

-- what the entries of a history tell of fragments: the part of a packet that was asked about, the parcels that the answer
-- frees, and whether the answer is that it waits
pub record Log (E : Type 0) : Type 0 where
  pub part : E → Part
  pub freed : E → List Parcel
  pub waits : E → Bool

abbrev pub waits_by : Answer → Bool
waits_by (Out from port src6 dst6 freed) = false
waits_by (Turn from port freed) = false
waits_by (In to port from peer freed) = false
waits_by (Kept port until) = false
waits_by Held = true
waits_by (Refused cause freed) = false

-- those of an edge's history
abbrev pub edge_log : Log Entry
edge_log = record { part = λ e. part_of e.ask; freed = λ e. freed_of e.answer; waits = λ e. waits_by e.answer }

abbrev pub part_in : FragAsk → Part
part_in (FirstAsk key ports) = First key
part_in (LaterAsk key octets) = Later key octets

abbrev pub is_held : FragAnswer → Bool
is_held Noted = false
is_held (Known ports) = false
is_held HeldBack = true
is_held (Released parcels) = false
is_held Full = false

-- those of a stripe's history
abbrev pub stripe_log : Log StripeEntry
stripe_log = record { part = λ e. part_in e.ask; freed = λ e. freed_by e.answer; waits = λ e. is_held e.answer }

-- the answer of the entry at place j frees this parcel, as the one at place a of its list
pub record Frees {E : Type 0} (log : Log E) (entries : List E) (j a : ℕ) (p : Parcel) : Type 0 where
  pub entry : E
  pub at : slice_get entries j ≡ Some entry
  pub parcel : slice_get (log.freed entry) a ≡ Some p

-- The parcel has waited for the entry at place j, which is about a first fragment: under the same key, at the earlier place
-- that it names. The entry there is about a later fragment with the parcel's octets, and its answer is that it waits.
pub record HasWaited {E : Type 0} (log : Log E) (entries : List E) (j : ℕ) (p : Parcel) : Type 0 where
  pub key : FragKey
  pub first : E
  pub at : slice_get entries j ≡ Some first
  pub frees : log.part first ≡ First key
  pub before : p.place < j
  pub later : E
  pub there : slice_get entries p.place ≡ Some later
  pub waited : log.part later ≡ Later key p.bytes
  pub held : IsTrue (log.waits later)
