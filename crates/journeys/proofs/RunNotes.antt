-- A run's steps in its trace: the note of each stands under its record and its number, and so does its packet among all.
use Rattle.std.proofs.Common.{◌≡◌, sym, ap, ◌∙◌, ℕ, suc, ◌≤◌, true, false, List, [], ◌∷◌, ◌++◌, map, length, Option, Some, subst, arith, append_assoc, length-append}
use Rattle.std.specs.Prelude.{slice_get}
use Rattle.std.proofs.lemmas.Bool.{eq-eqb, ne_eqb}
use Rattle.std.proofs.lemmas.List.{length-map, map-append}
use Rattle.mapt_setup.specs.declared.setup.Setup.{Setup}
use Rattle.mapt_setup.specs.declared.script.ScriptItem.{ScriptItem}
use Rattle.mapt_setup.specs.declared.script.ScriptItem.TheVariants.{Rec, Move}
use Rattle.domain_core.specs.declared.journey.HopNote.{HopNote}
use Rattle.domain_core.specs.declared.journey.Journey.{Journey}
use Rattle.domain_core.specs.declared.trace.TraceItem.{TraceItem}
use Rattle.domain_core.specs.declared.trace.TraceItem.TheVariants.{Record}
use Rattle.journeys.specs.Waiting.{Waiting, start_of}
use Rattle.journeys.specs.Answers.{and_then, journey_of}
use Rattle.journeys.specs.Derived.{packets_of}
use Rattle.journeys.specs.declared.made.Taking.{Taking}
use Rattle.journeys.specs.Run.{Histories, Step, first_waiting, ItemRun, ran, Runs, item_of}
use Rattle.journeys.proofs.RunLists.{Every, every_both, every_pair, get_behind}
use Rattle.journeys.proofs.RunSteps.{steps_of, packets_in, steps_with, taken_by, packets_with, with_itself, IsWalked, walk_records, run_records}
use Rattle.journeys.proofs.RunQueue.{Hops, hop_behind, walk_hops}

-- ---- notes

abbrev pub notes_of : List Step → List HopNote
notes_of steps = map (λ (s : Step). s.made.note) steps

-- the note of a hop among the items of a trace
abbrev pub note_in : List TraceItem → ℕ → ℕ → Option HopNote
note_in items rec hop = and_then (journey_of rec items) (λ (j : Journey). slice_get j.hops hop)

-- the steps of a walk have the notes of a list that begins with as many as there were before
walk_notes : (front : List HopNote) (steps : List Step) → Hops (length front) steps
    → Every (λ (s : Step). slice_get (front ++ notes_of steps) s.made.hop ≡ Some s.made.note) steps
walk_notes front [] hops = tt
walk_notes front (s ∷ steps) hops = (
  subst (λ (n : ℕ). slice_get (front ++ notes_of (s ∷ steps)) n ≡ Some s.made.note) (sym hops.0) (get_behind front (notes_of steps) s.made.note),
  subst (λ (notes : List HopNote). Every (λ (x : Step). slice_get notes x.made.hop ≡ Some x.made.note) steps) (append_assoc front (s.made.note ∷ []) (notes_of steps))
      (walk_notes (front ++ s.made.note ∷ []) steps (subst (λ (n : ℕ). Hops n steps) (omega (arith, length-append front (s.made.note ∷ []))) hops.1)),
)

abbrev IsNoted : List TraceItem → Step → Type 0
IsNoted items s = note_in items s.made.rec s.made.hop ≡ Some s.made.note

noted_first : (rec : ℕ) (notes : List HopNote) (items : List TraceItem) (s : Step) → s.made.rec ≡ rec → slice_get notes s.made.hop ≡ Some s.made.note
    → IsNoted (Record (record { rec = rec; worker = 0; hops = notes }) ∷ items) s
noted_first rec notes items s same at = rw (eq-eqb rec s.made.rec (sym same)) at

noted_later : (rec : ℕ) (notes : List HopNote) (items : List TraceItem) (s : Step) → suc rec ≤ s.made.rec → IsNoted items s
    → IsNoted (Record (record { rec = rec; worker = 0; hops = notes }) ∷ items) s
noted_later rec notes items s above is = rw (ne_eqb rec s.made.rec (λ same. absurd (omega arith))) is

pub run_notes : (setup : Setup) (rec changes : ℕ) (script : List ScriptItem) (runs : List ItemRun) (before after : Histories)
    → Runs setup rec changes script runs before after → Every (IsNoted (map item_of runs)) (steps_of runs)
run_notes setup rec changes [] runs before after (none, is) =
    subst (λ (r : List ItemRun). Every (IsNoted (map item_of r)) (steps_of r)) (sym none) tt
run_notes setup rec changes (Rec side time bytes ∷ script) runs before after (steps, others, mid, walks, rest, is) =
    let taking : Taking = record { rec = rec; time = time; seen = changes } in
    let items : List TraceItem = map item_of (ran rec steps ∷ others) in
    subst (λ (r : List ItemRun). Every (IsNoted (map item_of r)) (steps_of r)) (sym is)
    (every_both (IsNoted items) steps (steps_of others)
    (every_pair (λ (s : Step). s.made.rec ≡ rec) (λ (s : Step). slice_get (notes_of steps) s.made.hop ≡ Some s.made.note) (IsNoted items)
    (λ s. noted_first rec (notes_of steps) (map item_of others) s) steps
    (walk_records setup taking 0 (first_waiting (start_of setup side bytes)) steps before mid walks)
    (walk_notes [] steps (walk_hops setup taking 0 (first_waiting (start_of setup side bytes)) steps before mid walks)))
    (every_pair (λ (s : Step). suc rec ≤ s.made.rec) (IsNoted (map item_of others)) (IsNoted items)
    (λ s. noted_later rec (notes_of steps) (map item_of others) s) (steps_of others)
    (run_records setup (suc rec) changes script others mid after rest)
    (run_notes setup (suc rec) changes script others mid after rest)))
run_notes setup rec changes (Move number true ∷ script) runs before after (others, rest, is) =
    subst (λ (r : List ItemRun). Every (IsNoted (map item_of r)) (steps_of r)) (sym is) (run_notes setup rec (suc changes) script others before after rest)
run_notes setup rec changes (Move number false ∷ script) runs before after (others, rest, is) =
    subst (λ (r : List ItemRun). Every (IsNoted (map item_of r)) (steps_of r)) (sym is) (run_notes setup rec (suc changes) script others before after rest)

-- ---- packets

-- The packet of a step stands under its number among those of its record.
module _ (setup : Setup) (first : ℕ → Option Waiting) (all : List Step) (walked : (rec : ℕ) → IsWalked setup (first rec) (steps_with rec all)) where
  number_of : (xs : List Step) (s : Step) (ys rest : List Step) → all ≡ (xs ++ s ∷ ys) ++ rest → s.made.hop ≡ length (steps_with s.made.rec xs)
  number_of xs s ys rest is =
      let w = walked s.made.rec in
      let parts : steps_with s.made.rec all ≡ steps_with s.made.rec xs ++ s ∷ steps_with s.made.rec (ys ++ rest) =
      ap (steps_with s.made.rec) (is ∙ append_assoc xs (s ∷ ys) rest) ∙ with_itself xs s (ys ++ rest) in
      let hops = subst (λ (ss : List Step). Hops 0 ss) parts (walk_hops setup w.taking 0 _ (steps_with s.made.rec all) w.before w.after w.walks) in
      omega (arith, hop_behind 0 (steps_with s.made.rec xs) s (steps_with s.made.rec (ys ++ rest)) hops)

  pub packet_at : (xs : List Step) (s : Step) (ys rest : List Step) → all ≡ (xs ++ s ∷ ys) ++ rest
      → slice_get (packets_of s.made.rec (packets_in (xs ++ s ∷ ys))) s.made.hop ≡ Some s.made.taken
  packet_at xs s ys rest is =
      let rec = s.made.rec in
      let number : length (taken_by (steps_with rec xs)) ≡ s.made.hop =
      length-map (steps_with rec xs) (λ (x : Step). x.made.taken) ∙ sym (number_of xs s ys rest is) in
      let parts : packets_of rec (packets_in (xs ++ s ∷ ys)) ≡ taken_by (steps_with rec xs) ++ s.made.taken ∷ taken_by (steps_with rec ys) =
      packets_with rec (xs ++ s ∷ ys) ∙ ap taken_by (with_itself xs s ys)
      ∙ map-append (λ (x : Step). x.made.taken) (steps_with rec xs) (s ∷ steps_with rec ys) in
      subst (λ (ws : List Waiting). slice_get ws s.made.hop ≡ Some s.made.taken) (sym parts)
      (subst (λ (n : ℕ). slice_get (taken_by (steps_with rec xs) ++ s.made.taken ∷ taken_by (steps_with rec ys)) n ≡ Some s.made.taken) number
      (get_behind (taken_by (steps_with rec xs)) (taken_by (steps_with rec ys)) s.made.taken))
