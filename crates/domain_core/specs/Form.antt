-- What the form of a trace's text asks of the values that it spells. Each number has the width of its field, and parcels
-- stand there by their places alone.
use Rattle.std.specs.Prelude.{ℕ, nat_le, nat_lt, nat_eq, ◌^◌, Bool, true, false, ◌&&◌, not, List, [], ◌∷◌, length, Option, Some, None}
use Rattle.std.specs.List.{list_all}
use Rattle.octets.specs.declared.parcel.Parcel.{Parcel}
use Rattle.frag_table.specs.declared.answer.FragAnswer.{FragAnswer}
use Rattle.frag_table.specs.declared.answer.FragAnswer.TheVariants.{Noted, Known, Held as Waits, Released, Full}
use Rattle.nat_model.specs.declared.answer.Answer.{Answer}
use Rattle.nat_model.specs.declared.answer.Answer.TheVariants.{Out, Turn, In, Kept, Held, Refused}
use Rattle.nat_model.specs.declared.entry.Who.{Who}
use Rattle.nat_model.specs.declared.entry.Mark.{Mark}
use Rattle.domain_core.specs.declared.journey.HopNote.{HopNote}
use Rattle.domain_core.specs.declared.journey.Journey.{Journey}
use Rattle.domain_core.specs.declared.history.EdgeNote.{EdgeNote}
use Rattle.domain_core.specs.declared.history.EdgeHistory.{EdgeHistory}
use Rattle.domain_core.specs.declared.history.StripeNote.{StripeNote}
use Rattle.domain_core.specs.declared.history.StripeHistory.{StripeHistory}
use Rattle.domain_core.specs.declared.trace.TraceItem.{TraceItem}
use Rattle.domain_core.specs.declared.trace.TraceItem.TheVariants.{Record, Live, Still}

-- the number has so many bits at most
abbrev pub fits : ℕ → ℕ → Bool
fits bits number = nat_lt number (2 ^ bits)

-- the relay's number among nodes; edges have the lesser ones
abbrev pub relay : ℕ
relay = 256

-- the most workers of a replay
abbrev pub most_workers : ℕ
most_workers = 16

-- the most edges of a domain
abbrev pub most_edges : ℕ
most_edges = 256

-- the stripes of the relay
abbrev pub stripe_count : ℕ
stripe_count = 16

-- a place is written alone, or behind its stripe; a stripe isn't written without one
abbrev pub is_place_written : Option ℕ → Option ℕ → Bool
is_place_written None None = true
is_place_written None (Some place) = fits 64 place
is_place_written (Some stripe) None = false
is_place_written (Some stripe) (Some place) = fits 32 stripe && fits 64 place

abbrev pub is_hop_written : HopNote → Bool
is_hop_written note =
    nat_le note.node relay && (fits 32 note.seen && is_place_written note.stripe note.place)

abbrev pub is_journey_written : Journey → Bool
is_journey_written journey =
    fits 32 journey.rec && (fits 32 journey.worker && (fits 64 (length journey.hops) && list_all is_hop_written journey.hops))

-- the items of a script, each with who took it
abbrev pub is_item_written : TraceItem → Bool
is_item_written (Record journey) = is_journey_written journey
is_item_written (Live number worker) = fits 32 number && fits 32 worker
is_item_written (Still number) = fits 32 number

-- who asked
abbrev pub is_who_written : Who → Bool
is_who_written who = fits 32 who.worker && (fits 32 who.rec && fits 64 who.hop)

abbrev pub is_mark_written : Mark → Bool
is_mark_written mark = is_who_written mark.who && (fits 32 mark.seen && fits 32 mark.used)

-- of a freed parcel the place alone
abbrev pub no_octets : List ℕ → Bool
no_octets [] = true
no_octets (octet ∷ octets) = false

abbrev pub is_parcel_written : Parcel → Bool
is_parcel_written parcel = fits 64 parcel.place && no_octets parcel.bytes

abbrev pub are_parcels_written : List Parcel → Bool
are_parcels_written parcels = list_all is_parcel_written parcels

-- what an edge answered
abbrev pub is_answer_written : Answer → Bool
is_answer_written (Out from port src6 dst6 freed) =
    fits 32 from.0 && (fits 16 port && (fits 128 src6.0 && (fits 128 dst6.0 && are_parcels_written freed)))
is_answer_written (Turn from port freed) = fits 32 from.0 && (fits 16 port && are_parcels_written freed)
is_answer_written (In to port from peer freed) =
    fits 32 to.0 && (fits 16 port && (fits 32 from.0 && (fits 32 peer.0 && are_parcels_written freed)))
is_answer_written (Kept port until) = fits 16 port && fits 64 until
is_answer_written Held = true
is_answer_written (Refused cause freed) = are_parcels_written freed

-- what a stripe answered: a list of what it freed isn't empty
abbrev pub are_some : List Parcel → Bool
are_some [] = false
are_some (parcel ∷ parcels) = true

abbrev pub is_told_written : FragAnswer → Bool
is_told_written Noted = true
is_told_written (Known ports) = fits 16 ports.src && fits 16 ports.dst
is_told_written Waits = true
is_told_written (Released parcels) = are_some parcels && are_parcels_written parcels
is_told_written Full = true

abbrev pub is_edge_note_written : EdgeNote → Bool
is_edge_note_written note = is_mark_written note.mark && is_answer_written note.answer

abbrev pub is_edge_written : EdgeHistory → Bool
is_edge_written history = fits 64 (length history.notes) && list_all is_edge_note_written history.notes

abbrev pub is_stripe_note_written : StripeNote → Bool
is_stripe_note_written note = is_who_written note.who && is_told_written note.answer

abbrev pub is_stripe_written : StripeHistory → Bool
is_stripe_written history = fits 64 (length history.notes) && list_all is_stripe_note_written history.notes

-- what a trace's text has a form for
abbrev pub has_form : ℕ → List TraceItem → List EdgeHistory → List StripeHistory → Bool
has_form workers items edges stripes =
    (nat_le 1 workers && nat_le workers most_workers)
    && (list_all is_item_written items
    && ((nat_le (length edges) most_edges && list_all is_edge_written edges)
    && (nat_eq (length stripes) stripe_count && list_all is_stripe_written stripes)))
