-- How deep the hops of a journey are: chains of hops, each of which takes a packet that the one before sends on to a node.
use Rattle.std.specs.Prelude.{◌≡◌, ℕ, Bool, true, false, List, [], ◌∷◌, slice_get, Some}
use Rattle.rule_book.specs.Book.{rules_of, dmr_of}
use Rattle.rule_book.specs.Valid.{IsValid, FitBook}
use Rattle.frag_table.specs.Frag.{freed_by}
use Rattle.nat_model.specs.Waiting.{freed_of}
use Rattle.hops.specs.declared.hop.Out.{Out}
use Rattle.edge_node.specs.declared.way.Way.TheVariants.{Lan, Access, Turned}
use Rattle.mapt_setup.specs.declared.setup.Setup.{Setup}
use Rattle.mapt_setup.specs.Generation.{rules_in}
use Rattle.domain_core.specs.declared.journey.HopNote.{HopNote}
use Rattle.domain_core.specs.declared.history.EdgeNote.{EdgeNote}
use Rattle.domain_core.specs.declared.history.StripeNote.{StripeNote}
use Rattle.domain_core.specs.declared.trace.Trace.{Trace}
use Rattle.journeys.specs.declared.stand.Stand.{Stand}
use Rattle.journeys.specs.declared.stand.Stand.TheVariants.{Edge, Relay}
use Rattle.journeys.specs.Waiting.{Waiting, onward}
use Rattle.journeys.specs.Answers.{named_at_edge, named_at_relay}
use Rattle.journeys.specs.Rank.{is_fault4, is_fault6}
use Rattle.journeys.specs.Walk.{Step}

-- The rules of generation 0 are valid, and the numbers in those of each generation have the width of their prefixes.
pub record HasBooks (setup : Setup) : Type 0 where
  pub first : IsValid (rules_of setup.book) (dmr_of setup.book)
  pub fit : (generation : ℕ) → FitBook (rules_in setup generation) (dmr_of setup.book)

-- ---- what is freed to an ICMP error

-- Octets are one that a node took from the access network, or the relay at all. Elsewhere their rank doesn't depend on it.
abbrev pub is_fault_at : Stand → List ℕ → Bool
is_fault_at (Edge number Lan) octets = false
is_fault_at (Edge number Access) octets = is_fault6 octets
is_fault_at (Edge number Turned) octets = false
is_fault_at (Relay true) octets = is_fault6 octets
is_fault_at (Relay false) octets = is_fault4 octets

-- the entry that a hop's note names frees nothing
abbrev pub FreesNone : Trace → Stand → HopNote → Type 0
FreesNone trace (Edge number way) note =
    (entry : EdgeNote) → named_at_edge trace number note.stripe note.place ≡ Some entry → freed_of entry.answer ≡ []
FreesNone trace (Relay six) note =
    (entry : StripeNote) → named_at_relay trace note.stripe note.place ≡ Some entry → freed_by entry.answer ≡ []

abbrev pub FreesNoneToError : Trace → Step → Type 0
FreesNoneToError trace step = is_fault_at step.taken.stand step.taken.octets ≡ true → FreesNone trace step.taken.stand step.note

-- a hop of these journeys, by its record and its number
abbrev pub IsHopOf : List (List Step) → ℕ → ℕ → Step → Type 0
IsHopOf journeys rec hop step = (steps : List Step) × (slice_get journeys rec ≡ Some steps) × (slice_get steps hop ≡ Some step)

-- no hop of these frees to an ICMP error
abbrev pub FreeNoneToErrors : Trace → List (List Step) → Type 0
FreeNoneToErrors trace journeys = (rec hop : ℕ) (step : Step) → IsHopOf journeys rec hop step → FreesNoneToError trace step

-- ---- chains

-- a hop sends this packet on to a node
abbrev pub SendsOn : Setup → Step → Waiting → Type 0
SendsOn setup step next =
    (at : ℕ) × (out : Out) × (slice_get step.came.outs at ≡ Some out) × (onward setup step.taken.stand out ≡ Some next)

-- so it does of the packet that the first of these takes, if there is one
abbrev pub GoesOn : Setup → Step → List Step → Type 0
GoesOn setup step [] = Unit {0}
GoesOn setup step (next ∷ chain) = SendsOn setup step next.taken

-- hops of a record, each of which takes a packet that the one before sends on
abbrev pub IsChain : Setup → List (List Step) → ℕ → List Step → Type 0
IsChain setup journeys rec [] = Unit {0}
IsChain setup journeys rec (step ∷ chain) =
    ((hop : ℕ) × IsHopOf journeys rec hop step) × GoesOn setup step chain × IsChain setup journeys rec chain
