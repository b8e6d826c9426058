-- The items of a run's trace are those of its script, and its hops those of its steps.
use Rattle.std.proofs.Common.{◌≡◌, refl, sym, ap, ◌∙◌, ℕ, suc, ◌≤◌, true, false, List, [], ◌∷◌, ◌++◌, map, subst, arith}
use Rattle.std.proofs.lemmas.List.{map-append}
use Rattle.mapt_setup.specs.declared.setup.Setup.{Setup}
use Rattle.mapt_setup.specs.declared.script.ScriptItem.{ScriptItem}
use Rattle.mapt_setup.specs.declared.script.ScriptItem.TheVariants.{Rec, Move}
use Rattle.journeys.specs.Waiting.{Waiting, start_of}
use Rattle.journeys.specs.Derived.{Packet, packets_of}
use Rattle.journeys.specs.OneThread.{node_number, AreNotes, AreItems, HopMade, hops_from, all_hops}
use Rattle.journeys.specs.declared.made.Taking.{Taking}
use Rattle.journeys.specs.Run.{Histories, Step, sent_by_step, Walks, first_waiting, ItemRun, Runs, item_of}
use Rattle.journeys.proofs.RunSteps.{steps_of, steps_with, taken_by, first_with, later_with, run_records}
use Rattle.journeys.proofs.RunNotes.{notes_of}

-- the hops of steps
abbrev pub hops_of : List Step → List HopMade
hops_of steps = map (λ (s : Step). s.made) steps

-- ---- those of a walk

walk_are_notes : (setup : Setup) (taking : Taking) (hop : ℕ) (waiting : List Waiting) (steps : List Step) (before after : Histories)
    → Walks setup taking hop waiting steps before after → AreNotes taking.seen (taken_by steps) (notes_of steps)
walk_are_notes setup taking hop waiting [] before after walks = refl
walk_are_notes setup taking hop waiting (s ∷ steps) before after (w, others, mid, waits, of_it, is, walks) = (
  s.made.note,
  notes_of steps,
  of_it.node ∙ ap (λ (v : Waiting). node_number v.stand) (sym of_it.taken),
  of_it.seen,
  walk_are_notes setup taking (suc hop) (others ++ sent_by_step setup s) steps mid after walks,
  refl,
)

made_is : (made : HopMade) (rec hop time : ℕ) → made.rec ≡ rec → made.hop ≡ hop → made.time ≡ time
    → ◌≡◌ {A = HopMade} (record { rec = rec; hop = hop; time = time; taken = made.taken; note = made.note }) made
made_is made rec hop time same_rec same_hop same_time =
    sym (λ i. record { rec = same_rec i; hop = same_hop i; time = same_time i; taken = made.taken; note = made.note })

walk_hops_are : (setup : Setup) (taking : Taking) (hop : ℕ) (waiting : List Waiting) (steps : List Step) (before after : Histories)
    → Walks setup taking hop waiting steps before after → hops_from taking.rec taking.time hop (taken_by steps) (notes_of steps) ≡ hops_of steps
walk_hops_are setup taking hop waiting [] before after walks = refl
walk_hops_are setup taking hop waiting (s ∷ steps) before after (w, others, mid, waits, of_it, is, walks) =
    let first : HopMade = record { rec = taking.rec; hop = hop; time = taking.time; taken = s.made.taken; note = s.made.note } in
    ap (λ (hops : List HopMade). first ∷ hops) (walk_hops_are setup taking (suc hop) (others ++ sent_by_step setup s) steps mid after walks)
    ∙ ap (λ (m : HopMade). m ∷ hops_of steps) (made_is s.made taking.rec hop taking.time of_it.rec of_it.hop_is of_it.time)

-- ---- those of a run, where these packets have what its steps took

abbrev pub AreTaken : List Packet → ℕ → List Step → Type 0
AreTaken packets from steps = (rec : ℕ) → from ≤ rec → packets_of rec packets ≡ taken_by (steps_with rec steps)

module _ (setup : Setup) (packets : List Packet) where
  -- of its first record, and of the others
  first_taken : (taking : Taking) (waiting : List Waiting) (steps : List Step) (before mid after : Histories) (changes : ℕ) (script : List ScriptItem) (runs : List ItemRun)
      → Walks setup taking 0 waiting steps before mid → Runs setup (suc taking.rec) changes script runs mid after
      → AreTaken packets taking.rec (steps ++ steps_of runs) → packets_of taking.rec packets ≡ taken_by steps
  first_taken taking waiting steps before mid after changes script runs walks rest taken =
      taken taking.rec (omega arith)
      ∙ ap taken_by (first_with setup taking waiting steps (steps_of runs) before mid walks (run_records setup (suc taking.rec) changes script runs mid after rest))

  others_taken : (taking : Taking) (waiting : List Waiting) (steps others : List Step) (before mid : Histories) → Walks setup taking 0 waiting steps before mid
      → AreTaken packets taking.rec (steps ++ others) → AreTaken packets (suc taking.rec) others
  others_taken taking waiting steps others before mid walks taken rec above =
      taken rec (omega arith) ∙ ap taken_by (later_with setup taking waiting steps others before mid rec walks (omega arith))

  pub run_items : (rec changes : ℕ) (script : List ScriptItem) (runs : List ItemRun) (before after : Histories)
      → Runs setup rec changes script runs before after → AreTaken packets rec (steps_of runs) → AreItems packets rec changes script (map item_of runs)
  run_items rec changes [] runs before after (none, is) taken = ap (map item_of) none
  run_items rec changes (Rec side time bytes ∷ script) runs before after (steps, others, mid, walks, rest, is) taken =
      let taking : Taking = record { rec = rec; time = time; seen = changes } in
      let waiting : List Waiting = first_waiting (start_of setup side bytes) in
      let these : AreTaken packets rec (steps ++ steps_of others) = subst (λ (r : List ItemRun). AreTaken packets rec (steps_of r)) is taken in (
        record { rec = rec; worker = 0; hops = notes_of steps },
        map item_of others,
        refl,
        refl,
        subst (λ (ws : List Waiting). AreNotes changes ws (notes_of steps)) (sym (first_taken taking waiting steps before mid after changes script others walks rest these))
            (walk_are_notes setup taking 0 waiting steps before mid walks),
        run_items (suc rec) changes script others mid after rest (others_taken taking waiting steps (steps_of others) before mid walks these),
        ap (map item_of) is,
      )
  run_items rec changes (Move number true ∷ script) runs before after (others, rest, is) taken = (
    map item_of others,
    run_items rec (suc changes) script others before after rest (subst (λ (r : List ItemRun). AreTaken packets rec (steps_of r)) is taken),
    ap (map item_of) is,
  )
  run_items rec changes (Move number false ∷ script) runs before after (others, rest, is) taken = (
    map item_of others,
    run_items rec (suc changes) script others before after rest (subst (λ (r : List ItemRun). AreTaken packets rec (steps_of r)) is taken),
    ap (map item_of) is,
  )

  pub run_hops : (rec changes : ℕ) (script : List ScriptItem) (runs : List ItemRun) (before after : Histories)
      → Runs setup rec changes script runs before after → AreTaken packets rec (steps_of runs)
      → all_hops packets rec script (map item_of runs) ≡ hops_of (steps_of runs)
  run_hops rec changes [] runs before after (none, is) taken =
      subst (λ (r : List ItemRun). all_hops packets rec [] (map item_of r) ≡ hops_of (steps_of r)) (sym none) refl
  run_hops rec changes (Rec side time bytes ∷ script) runs before after (steps, others, mid, walks, rest, is) taken =
      let taking : Taking = record { rec = rec; time = time; seen = changes } in
      let waiting : List Waiting = first_waiting (start_of setup side bytes) in
      let these : AreTaken packets rec (steps ++ steps_of others) = subst (λ (r : List ItemRun). AreTaken packets rec (steps_of r)) is taken in
      subst (λ (r : List ItemRun). all_hops packets rec (Rec side time bytes ∷ script) (map item_of r) ≡ hops_of (steps_of r)) (sym is)
      (ap (λ (hops : List HopMade). hops_from rec time 0 (packets_of rec packets) (notes_of steps) ++ hops)
      (run_hops (suc rec) changes script others mid after rest (others_taken taking waiting steps (steps_of others) before mid walks these))
      ∙ ap (λ (ws : List Waiting). hops_from rec time 0 ws (notes_of steps) ++ hops_of (steps_of others))
      (first_taken taking waiting steps before mid after changes script others walks rest these)
      ∙ ap (λ (hops : List HopMade). hops ++ hops_of (steps_of others)) (walk_hops_are setup taking 0 waiting steps before mid walks)
      ∙ sym (map-append (λ (s : Step). s.made) steps (steps_of others)))
  run_hops rec changes (Move number true ∷ script) runs before after (others, rest, is) taken =
      subst (λ (r : List ItemRun). all_hops packets rec (Move number true ∷ script) (map item_of r) ≡ hops_of (steps_of r)) (sym is)
      (run_hops rec (suc changes) script others before after rest (subst (λ (r : List ItemRun). AreTaken packets rec (steps_of r)) is taken))
  run_hops rec changes (Move number false ∷ script) runs before after (others, rest, is) taken =
      subst (λ (r : List ItemRun). all_hops packets rec (Move number false ∷ script) (map item_of r) ≡ hops_of (steps_of r)) (sym is)
      (run_hops rec (suc changes) script others before after rest (subst (λ (r : List ItemRun). AreTaken packets rec (steps_of r)) is taken))
