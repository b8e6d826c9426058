-- What a trace says of a hop: its note, and the entry that the note names.
use Rattle.std.specs.Prelude.{ℕ, ◌==◌, if◌then◌else◌, List, [], ◌∷◌, slice_get, Option, Some, None}
use Rattle.domain_core.specs.declared.journey.HopNote.{HopNote}
use Rattle.domain_core.specs.declared.journey.Journey.{Journey}
use Rattle.domain_core.specs.declared.history.EdgeNote.{EdgeNote}
use Rattle.domain_core.specs.declared.history.EdgeHistory.{EdgeHistory}
use Rattle.domain_core.specs.declared.history.StripeNote.{StripeNote}
use Rattle.domain_core.specs.declared.history.StripeHistory.{StripeHistory}
use Rattle.domain_core.specs.declared.trace.TraceItem.{TraceItem}
use Rattle.domain_core.specs.declared.trace.TraceItem.TheVariants.{Record, Live, Still}
use Rattle.domain_core.specs.declared.trace.Trace.{Trace}

-- the second, where there is a first
abbrev pub and_then : {A B : Type 0} → Option A → (A → Option B) → Option B
and_then None f = None
and_then (Some a) f = f a

-- the journey of a record
abbrev pub journey_of : ℕ → List TraceItem → Option Journey
journey_of rec [] = None
journey_of rec (Record journey ∷ items) = if journey.rec == rec then Some journey else journey_of rec items
journey_of rec (Live number worker ∷ items) = journey_of rec items
journey_of rec (Still number ∷ items) = journey_of rec items

-- the note of a hop, by its record and its number in it
abbrev pub note_of : Trace → ℕ → ℕ → Option HopNote
note_of trace rec hop = and_then (journey_of rec trace.items) (λ (j : Journey). slice_get j.hops hop)

-- the entry at a place of an edge's history, and of a stripe's
abbrev pub edge_entry : Trace → ℕ → ℕ → Option EdgeNote
edge_entry trace number place = and_then (slice_get trace.edges number) (λ (h : EdgeHistory). slice_get h.notes place)

abbrev pub stripe_entry : Trace → ℕ → ℕ → Option StripeNote
stripe_entry trace stripe place = and_then (slice_get trace.stripes stripe) (λ (h : StripeHistory). slice_get h.notes place)

-- The entry of an edge that a hop's note names: by its place. One with a stripe names none.
abbrev pub named_at_edge : Trace → ℕ → Option ℕ → Option ℕ → Option EdgeNote
named_at_edge trace number None None = None
named_at_edge trace number None (Some place) = edge_entry trace number place
named_at_edge trace number (Some stripe) place = None

-- the entry of the relay: by its stripe and place
abbrev pub named_at_relay : Trace → Option ℕ → Option ℕ → Option StripeNote
named_at_relay trace None place = None
named_at_relay trace (Some stripe) None = None
named_at_relay trace (Some stripe) (Some place) = stripe_entry trace stripe place
