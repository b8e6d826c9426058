-- What is kept of a run is what its trace says: a journey for each record, of the steps of its walk.
use Rattle.std.proofs.Common.{◌≡◌, refl, sym, ap, ◌∙◌, ℕ, zero, suc, ◌+◌, Bool, true, false, cond, List, [], ◌∷◌, map, length, Some, subst, arith}
use Rattle.std.specs.Prelude.{slice_get, ◌==◌, filter}
use Rattle.std.proofs.lemmas.Bool.{eqb-true}
use Rattle.std.proofs.lemmas.List.{append-nil}
use Rattle.mapt_setup.specs.declared.setup.Setup.{Setup}
use Rattle.mapt_setup.specs.declared.script.ScriptItem.{ScriptItem}
use Rattle.mapt_setup.specs.declared.script.ScriptItem.TheVariants.{Rec, Move}
use Rattle.mapt_setup.specs.Script.{is_record}
use Rattle.domain_core.specs.declared.trace.Trace.{Trace}
use Rattle.journeys.specs.declared.made.MadeHop.{MadeHop}
use Rattle.journeys.specs.Waiting.{Waiting, start_of}
use Rattle.journeys.specs.Walk.{Step as Made, kept_of}
use Rattle.journeys.specs.Derived.{Told}
use Rattle.journeys.specs.Came.{IsToldHop, IsToldJourney, AreKept}
use Rattle.journeys.specs.Run.{Histories, Step, first_waiting, ItemRun, ran, live, still, Runs, kept_of_step, made_in, no_histories, IsRun}
use Rattle.journeys.proofs.RunLists.{Every, get_written}
use Rattle.journeys.proofs.RunSteps.{steps_of, packets_in, steps_with, taken_by, packets_with, first_with, later_with, run_records}
use Rattle.journeys.proofs.RunQueue.{Hops, walk_hops}
use Rattle.journeys.proofs.RunDerived.{are_derived, are_all}
use Rattle.journeys.proofs.RunSent.{kept_step, told, all_steps, walked, all_told, all_sent}

-- the steps of each record
abbrev steps_by_record : List ItemRun → List (List Step)
steps_by_record [] = []
steps_by_record (ran rec steps ∷ runs) = steps ∷ steps_by_record runs
steps_by_record (live number ∷ runs) = steps_by_record runs
steps_by_record (still number ∷ runs) = steps_by_record runs

-- and as journeys
abbrev journey_of : List Step → List Made
journey_of steps = map kept_step steps

abbrev journeys_of : List ItemRun → List (List Made)
journeys_of runs = map journey_of (steps_by_record runs)

-- ---- what is kept

kept_steps : (steps : List Step) → map kept_of_step steps ≡ map kept_of (journey_of steps)
kept_steps [] = refl
kept_steps (s ∷ steps) = ap (λ (kept : List MadeHop). kept_of_step s ∷ kept) (kept_steps steps)

kept_runs : (runs : List ItemRun) → made_in runs ≡ map (map kept_of) (journeys_of runs)
kept_runs [] = refl
kept_runs (ran rec steps ∷ runs) = λ i. kept_steps steps i ∷ kept_runs runs i
kept_runs (live number ∷ runs) = kept_runs runs
kept_runs (still number ∷ runs) = kept_runs runs

-- ---- the steps of a record, by its number

count : (setup : Setup) (rec changes : ℕ) (script : List ScriptItem) (runs : List ItemRun) (before after : Histories)
    → Runs setup rec changes script runs before after → length (journeys_of runs) ≡ length (filter is_record script)
count setup rec changes [] runs before after (none, is) = ap (λ (r : List ItemRun). length (journeys_of r)) none
count setup rec changes (Rec side time bytes ∷ script) runs before after (steps, others, mid, walks, rest, is) =
    ap (λ (r : List ItemRun). length (journeys_of r)) is ∙ ap suc (count setup (suc rec) changes script others mid after rest)
count setup rec changes (Move number true ∷ script) runs before after (others, rest, is) =
    ap (λ (r : List ItemRun). length (journeys_of r)) is ∙ count setup rec (suc changes) script others before after rest
count setup rec changes (Move number false ∷ script) runs before after (others, rest, is) =
    ap (λ (r : List ItemRun). length (journeys_of r)) is ∙ count setup rec (suc changes) script others before after rest

-- those of the record at a place are its steps among all
abbrev AreOf : ℕ → ℕ → List Step → List ItemRun → Type 0
AreOf rec n steps runs = slice_get (steps_by_record runs) n ≡ Some steps → steps_with (rec + n) (steps_of runs) ≡ steps

are_of : (setup : Setup) (rec changes : ℕ) (script : List ScriptItem) (runs : List ItemRun) (before after : Histories)
    → Runs setup rec changes script runs before after → (n : ℕ) (steps : List Step) → AreOf rec n steps runs
are_of setup rec changes [] runs before after (none, is) n steps =
    subst (λ (r : List ItemRun). AreOf rec n steps r) (sym none) (λ there. absurd (cc))
are_of setup rec changes (Rec side time bytes ∷ script) runs before after (steps, others, mid, walks, rest, is) zero found =
    subst (λ (r : List ItemRun). AreOf rec 0 found r) (sym is) first
  where
    first : AreOf rec 0 found (ran rec steps ∷ others)
    first there =
        let same : steps ≡ found = cc in
        let number : rec ≡ rec + 0 = omega arith in
        subst (λ (m : ℕ). steps_with m (steps_of (ran rec steps ∷ others)) ≡ found) number
        (first_with setup (record { rec = rec; time = time; seen = changes }) (first_waiting (start_of setup side bytes)) steps (steps_of others) before mid walks
        (run_records setup (suc rec) changes script others mid after rest) ∙ same)
are_of setup rec changes (Rec side time bytes ∷ script) runs before after (steps, others, mid, walks, rest, is) (suc n) found =
    subst (λ (r : List ItemRun). AreOf rec (suc n) found r) (sym is) (later (λ there. are_of setup (suc rec) changes script others mid after rest n found there))
  where
    later : AreOf (suc rec) n found others → AreOf rec (suc n) found (ran rec steps ∷ others)
    later so there =
        let number : suc rec + n ≡ rec + suc n = omega arith in
        later_with setup (record { rec = rec; time = time; seen = changes }) (first_waiting (start_of setup side bytes)) steps (steps_of others) before mid (rec + suc n) walks
        (omega arith)
        ∙ subst (λ (m : ℕ). steps_with m (steps_of others) ≡ found) number (so there)
are_of setup rec changes (Move number true ∷ script) runs before after (others, rest, is) n found =
    subst (λ (r : List ItemRun). AreOf rec n found r) (sym is) (are_of setup rec (suc changes) script others before after rest n found)
are_of setup rec changes (Move number false ∷ script) runs before after (others, rest, is) n found =
    subst (λ (r : List ItemRun). AreOf rec n found r) (sym is) (are_of setup rec (suc changes) script others before after rest n found)

-- ---- one journey

hops_at : (hop : ℕ) (steps : List Step) → Hops hop steps → (k : ℕ) (s : Step) → slice_get steps k ≡ Some s → s.made.hop ≡ hop + k
hops_at hop [] hops k s at = absurd (cc)
hops_at hop (x ∷ steps) hops zero s at = let same : x ≡ s = cc in omega (arith, ap (λ (y : Step). y.made.hop) (sym same), hops.0)
hops_at hop (x ∷ steps) hops (suc k) s at = omega (arith, hops_at (suc hop) steps hops.1 k s at)

journey_takes : (steps : List Step) → map (λ (s : Made). s.taken) (journey_of steps) ≡ taken_by steps
journey_takes [] = refl
journey_takes (s ∷ steps) = ap (λ (ws : List Waiting). s.made.taken ∷ ws) (journey_takes steps)

-- what holds of each step by its record
each_with : (P : ℕ → Step → Type 0) (rec : ℕ) (steps : List Step) → Every (λ (s : Step). P s.made.rec s) steps → (k : ℕ) (s : Step)
    → slice_get (steps_with rec steps) k ≡ Some s → P rec s
each_with P rec [] each k s at = absurd (cc)
each_with P rec (x ∷ steps) each k s at = by (λ j tail. each_with P rec steps each.1 j s tail) (x.made.rec == rec) refl k at
  where
    by : ((j : ℕ) → slice_get (steps_with rec steps) j ≡ Some s → P rec s) → (b : Bool) → (x.made.rec == rec) ≡ b → (k : ℕ)
        → slice_get (cond b (x ∷ steps_with rec steps) (steps_with rec steps)) k ≡ Some s → P rec s
    by so true is zero here =
        let same : x ≡ s = cc in
        subst (P rec) same (subst (λ (n : ℕ). P n x) (eqb-true x.made.rec rec is) each.0)
    by so true is (suc j) here = so j here
    by so false is j here = so j here

module _ (setup : Setup) (script : List ScriptItem) (trace : Trace) (run : IsRun setup script trace) where
  abbrev all : List Step
  all = all_steps setup script trace run

  abbrev this : Told
  this = told setup script trace run

  one : (rec : ℕ) (steps : List Step) → steps_with rec all ≡ steps → IsToldJourney this (packets_in all) rec (journey_of steps)
  one rec steps is =
      let w = walked setup script trace run rec in
      record {
        numbers = λ hop step at.
            let got = get_written kept_step steps hop step at in
            ap (λ (m : Made). m.hop) got.2
            ∙ hops_at 0 steps (subst (λ (ss : List Step). Hops 0 ss) is (walk_hops setup w.taking 0 _ (steps_with rec all) w.before w.after w.walks)) hop got.0 got.1
            ∙ omega arith;
        takes = journey_takes steps ∙ ap taken_by (sym is) ∙ sym (packets_with rec all);
        each = λ hop step at.
            let got = get_written kept_step steps hop step at in
            subst (IsToldHop this (packets_in all) rec) (sym got.2)
            (each_with (λ (n : ℕ) (s : Step). IsToldHop this (packets_in all) n (kept_step s)) rec all
            (all_told setup script trace run all [] (sym (append-nil all))) hop got.0
            (subst (λ (ss : List Step). slice_get ss hop ≡ Some got.0) (sym is) got.1));
      }

  pub run_is_kept : AreKept this (made_in run.runs)
  run_is_kept = (
    journeys_of run.runs,
    (
      packets_in all,
      record {
        derived = are_derived this all (walked setup script trace run) (all_sent setup script trace run);
        whole = are_all this all (walked setup script trace run) (all_sent setup script trace run);
        count = count setup 0 0 script run.runs (no_histories setup) run.after run.are;
        each = λ rec journey at.
            let got = get_written journey_of (steps_by_record run.runs) rec journey at in
            subst (IsToldJourney this (packets_in all) rec) (sym got.2)
            (one rec got.0 (subst (λ (n : ℕ). steps_with n all ≡ got.0) (none_before rec)
            (are_of setup 0 0 script run.runs (no_histories setup) run.after run.are rec got.0 got.1)));
      },
    ),
    kept_runs run.runs,
  )
    where
      none_before : (n : ℕ) → 0 + n ≡ n
      none_before n = omega arith
