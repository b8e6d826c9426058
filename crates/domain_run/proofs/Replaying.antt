-- Items of a script, one after the other.
use Rattle.std.proofs.Common.{◌≡◌, refl, sym, ap, ◌∙◌, ℕ, suc, ◌+◌, ◌^◌, ◌<◌, Bool, true, false, List, [], ◌∷◌, ◌++◌, map, length, subst, arith}
use Rattle.std.specs.Prelude.{IsTrue, ◌&&◌}
use Rattle.std.specs.List.{list_all}
use Rattle.std.proofs.lemmas.Bool.{lt-ltb}
use Rattle.std.proofs.lemmas.List.{map-append, append-nil}
use Rattle.mapt_setup.specs.declared.script.ScriptItem.{ScriptItem}
use Rattle.mapt_setup.specs.declared.script.ScriptItem.TheVariants.{Rec, Move}
use Rattle.mapt_setup.specs.declared.setup.Setup.{Setup}
use Rattle.mapt_setup.specs.declared.capture.Side.{Side}
use Rattle.domain_core.specs.declared.journey.HopNote.{HopNote}
use Rattle.domain_core.specs.declared.journey.Journey.{Journey}
use Rattle.domain_core.specs.declared.trace.TraceItem.{TraceItem}
use Rattle.domain_core.specs.declared.trace.TraceItem.TheVariants.{Record, Live, Still}
use Rattle.domain_core.specs.Form.{is_item_written, is_journey_written}
use Rattle.journeys.specs.declared.made.MadeHop.{MadeHop}
use Rattle.journeys.specs.declared.made.Taking.{Taking}
use Rattle.journeys.specs.Waiting.{start_of}
use Rattle.journeys.specs.Walk.{Step, kept_of}
use Rattle.journeys.specs.Run.{Histories, Step as RunStep, run_step, first_waiting, ItemRun, ran, live, still, Runs, item_of, kept_of_step, made_in, no_histories}
use Rattle.domain_run.specs.declared.replay.Replay.{Replay}
use Rattle.domain_run.specs.Machines.{histories_of, AreMachines, IsTakenRecord}
use Rattle.domain_run.specs.Items.{AreTakeable, RunsTo, IsReplayed, IsItemTaken}

module _ (setup : Setup) where
  -- without the numbers behind them
  pub runs_of : (script : List ScriptItem) (rec changes : ℕ) (runs : List ItemRun) (before after : Histories) (last_rec last_changes : ℕ)
      → RunsTo setup rec changes script runs before last_rec last_changes after → Runs setup rec changes script runs before after
  runs_of [] rec changes runs before after last_rec last_changes to = (to.0, to.1)
  runs_of (Rec side time bytes ∷ script) rec changes runs before after last_rec last_changes (steps, others, mid, walks, to, is) =
      (steps, others, mid, walks, runs_of script (suc rec) changes others mid after last_rec last_changes to, is)
  runs_of (Move number true ∷ script) rec changes runs before after last_rec last_changes (others, to, is) =
      (others, runs_of script rec (suc changes) others before after last_rec last_changes to, is)
  runs_of (Move number false ∷ script) rec changes runs before after last_rec last_changes (others, to, is) =
      (others, runs_of script rec (suc changes) others before after last_rec last_changes to, is)

  -- these, and then those
  pub runs_more : (xs ys : List ScriptItem) (rec changes : ℕ) (runs others : List ItemRun) (before mid after : Histories) (mid_rec mid_changes last_rec last_changes : ℕ)
      → RunsTo setup rec changes xs runs before mid_rec mid_changes mid → RunsTo setup mid_rec mid_changes ys others mid last_rec last_changes after
      → RunsTo setup rec changes (xs ++ ys) (runs ++ others) before last_rec last_changes after
  runs_more [] ys rec changes runs others before mid after mid_rec mid_changes last_rec last_changes (none, same, is_rec, is_changes) second =
      subst (λ (rs : List ItemRun). RunsTo setup rec changes ys (rs ++ others) before last_rec last_changes after) (sym none)
      (subst (λ (h : Histories). RunsTo setup rec changes ys others h last_rec last_changes after) same
      (subst (λ (r : ℕ). RunsTo setup r changes ys others mid last_rec last_changes after) is_rec
      (subst (λ (c : ℕ). RunsTo setup mid_rec c ys others mid last_rec last_changes after) is_changes second)))
  runs_more (Rec side time bytes ∷ xs) ys rec changes runs others before mid after mid_rec mid_changes last_rec last_changes (steps, rest, between, walks, to, is) second = (
    steps,
    rest ++ others,
    between,
    walks,
    runs_more xs ys (suc rec) changes rest others between mid after mid_rec mid_changes last_rec last_changes to second,
    ap (λ (rs : List ItemRun). rs ++ others) is,
  )
  runs_more (Move number true ∷ xs) ys rec changes runs others before mid after mid_rec mid_changes last_rec last_changes (rest, to, is) second =
      (rest ++ others, runs_more xs ys rec (suc changes) rest others before mid after mid_rec mid_changes last_rec last_changes to second, ap (λ (rs : List ItemRun). rs ++ others) is)
  runs_more (Move number false ∷ xs) ys rec changes runs others before mid after mid_rec mid_changes last_rec last_changes (rest, to, is) second =
      (rest ++ others, runs_more xs ys rec (suc changes) rest others before mid after mid_rec mid_changes last_rec last_changes to second, ap (λ (rs : List ItemRun). rs ++ others) is)

  -- what comes next can be taken
  pub takeable_next : (xs : List ScriptItem) (item : ScriptItem) (ys : List ScriptItem) (rec changes : ℕ) (runs : List ItemRun) (before after : Histories) (last_rec last_changes : ℕ)
      → AreTakeable setup changes (xs ++ item ∷ ys) → RunsTo setup rec changes xs runs before last_rec last_changes after → AreTakeable setup last_changes (item ∷ [])
  takeable_next [] (Rec side time bytes) ys rec changes runs before after last_rec last_changes can to = (can.0, can.1, tt)
  takeable_next [] (Move number meanwhile) ys rec changes runs before after last_rec last_changes can to =
      (subst (λ (c : ℕ). c < length setup.changes) (sym to.3) can.0, tt)
  takeable_next (Rec side time bytes ∷ xs) item ys rec changes runs before after last_rec last_changes can (steps, rest, between, walks, to, is) =
      takeable_next xs item ys (suc rec) changes rest between after last_rec last_changes can.2 to
  takeable_next (Move number true ∷ xs) item ys rec changes runs before after last_rec last_changes can (rest, to, is) =
      takeable_next xs item ys rec (suc changes) rest before after last_rec last_changes can.1 to
  takeable_next (Move number false ∷ xs) item ys rec changes runs before after last_rec last_changes can (rest, to, is) =
      takeable_next xs item ys rec (suc changes) rest before after last_rec last_changes can.1 to

-- the form of items, and of one more
form_more : (xs : List TraceItem) (x : TraceItem) → IsTrue (list_all is_item_written xs) → IsTrue (is_item_written x) → IsTrue (list_all is_item_written (xs ++ x ∷ []))
form_more [] x all one = rw one refl
form_more (y ∷ xs) x all one = by (is_item_written y) refl all (λ rest. form_more xs x rest one)
  where
    by : (b : Bool) → is_item_written y ≡ b → IsTrue (b && list_all is_item_written xs)
        → (IsTrue (list_all is_item_written xs) → IsTrue (list_all is_item_written (xs ++ x ∷ [])))
        → IsTrue (is_item_written y && list_all is_item_written (xs ++ x ∷ []))
    by true e rest next = rw e (next rest)
    by false e rest next = absurd (cc)

-- the hops of these items, and of those behind them
made_more : (xs ys : List ItemRun) → made_in (xs ++ ys) ≡ made_in xs ++ made_in ys
made_more [] ys = refl
made_more (ran rec steps ∷ xs) ys = ap (λ (hops : List (List MadeHop)). map kept_of_step steps ∷ hops) (made_more xs ys)
made_more (live number ∷ xs) ys = made_more xs ys
made_more (still number ∷ xs) ys = made_more xs ys

-- one item more
pub replayed_more : (setup : Setup) (done : List ScriptItem) (item : ScriptItem) (before after : Replay) → IsReplayed setup done before → IsItemTaken setup item before after
    → IsReplayed setup (done ++ item ∷ []) after
replayed_more setup done item before after is taken = record {
  runs = is.runs ++ taken.run ∷ [];
  are = runs_more setup done (item ∷ []) 0 0 is.runs (taken.run ∷ []) (no_histories setup) (histories_of before.machines) (histories_of after.machines)
      before.records before.changes after.records after.changes is.are taken.are;
  items = taken.items ∙ ap (λ (xs : List TraceItem). xs ++ item_of taken.run ∷ []) is.items ∙ sym (map-append item_of is.runs (taken.run ∷ []));
  kept = taken.kept ∙ ap (λ (hops : List (List MadeHop)). hops ++ made_in (taken.run ∷ [])) is.kept ∙ sym (made_more is.runs (taken.run ∷ []));
  machines = taken.machines;
  form = subst (λ (xs : List TraceItem). IsTrue (list_all is_item_written xs)) (sym taken.items) (form_more before.items.items (item_of taken.run) is.form taken.form);
}

-- ---- a change

abbrev pub change_item : Bool → ℕ → TraceItem
change_item true number = Live number 0
change_item false number = Still number

pub change_taken : (setup : Setup) (number : ℕ) (meanwhile : Bool) (item : TraceItem) (before after : Replay) → number < 2 ^ 32 → item ≡ change_item meanwhile number
    → after.items.items ≡ before.items.items ++ item ∷ [] → after.kept.items ≡ before.kept.items
    → after.records ≡ before.records → after.changes ≡ before.changes + 1
    → AreMachines setup (before.changes + 1) after.machines → histories_of after.machines ≡ histories_of before.machines → IsItemTaken setup (Move number meanwhile) before after
change_taken setup number true item before after fits is items kept records changes machines histories = record {
  run = live number;
  are = ([], (refl, histories, records, changes ∙ one_more before.changes), refl);
  items = items ∙ ap (λ (x : TraceItem). before.items.items ++ x ∷ []) is;
  kept = kept ∙ sym (append-nil before.kept.items);
  machines = subst (λ (c : ℕ). AreMachines setup c after.machines) (sym changes) machines;
  form = rw (lt-ltb number (2 ^ 32) fits) refl;
}
  where
    one_more : (n : ℕ) → n + 1 ≡ suc n
    one_more n = omega arith
change_taken setup number false item before after fits is items kept records changes machines histories = record {
  run = still number;
  are = ([], (refl, histories, records, changes ∙ one_more before.changes), refl);
  items = items ∙ ap (λ (x : TraceItem). before.items.items ++ x ∷ []) is;
  kept = kept ∙ sym (append-nil before.kept.items);
  machines = subst (λ (c : ℕ). AreMachines setup c after.machines) (sym changes) machines;
  form = rw (lt-ltb number (2 ^ 32) fits) refl;
}
  where
    one_more : (n : ℕ) → n + 1 ≡ suc n
    one_more n = omega arith

-- ---- a record

notes_are : (taking : Taking) (steps : List Step) → map (λ (m : MadeHop). m.note) (map kept_of steps) ≡ map (λ (s : RunStep). s.made.note) (map (run_step taking) steps)
notes_are taking [] = refl
notes_are taking (step ∷ steps) = ap (λ (ns : List HopNote). step.note ∷ ns) (notes_are taking steps)

hops_are : (taking : Taking) (steps : List Step) → map kept_of steps ≡ map kept_of_step (map (run_step taking) steps)
hops_are taking [] = refl
hops_are taking (step ∷ steps) = ap (λ (hops : List MadeHop). kept_of step ∷ hops) (hops_are taking steps)

pub record_taken : (setup : Setup) (side : Side) (time : ℕ) (octets : List ℕ) (kept : List MadeHop) (journey : Journey) (before after : Replay)
    → IsTakenRecord setup (record { rec = before.records; time = time; seen = before.changes }) (first_waiting (start_of setup side octets)) before.machines after.machines kept
    → journey ≡ record { rec = before.records; worker = 0; hops = map (λ (m : MadeHop). m.note) kept } → IsTrue (is_journey_written journey)
    → after.items.items ≡ before.items.items ++ Record journey ∷ [] → after.kept.items ≡ before.kept.items ++ kept ∷ []
    → after.records ≡ before.records + 1 → after.changes ≡ before.changes
    → AreMachines setup before.changes after.machines → IsItemTaken setup (Rec side time octets) before after
record_taken setup side time octets kept journey before after (steps, walks, kept_is) told form items more records changes machines = record {
  run = ran before.records (map (run_step taking) steps);
  are = (map (run_step taking) steps, [], histories_of after.machines, walks, (refl, refl, records ∙ one_more before.records, changes), refl);
  items = items ∙ ap (λ (j : Journey). before.items.items ++ Record j ∷ []) is;
  kept = more ∙ ap (λ (hops : List MadeHop). before.kept.items ++ hops ∷ []) (kept_is ∙ hops_are taking steps);
  machines = subst (λ (c : ℕ). AreMachines setup c after.machines) (sym changes) machines;
  form = subst (λ (j : Journey). IsTrue (is_journey_written j)) is form;
}
  where
    taking : Taking
    taking = record { rec = before.records; time = time; seen = before.changes }

    is : journey ≡ record { rec = before.records; worker = 0; hops = map (λ (s : RunStep). s.made.note) (map (run_step taking) steps) }
    is = told ∙ ap (λ (ns : List HopNote). journey_with ns) (ap (map (λ (m : MadeHop). m.note)) kept_is ∙ notes_are taking steps)
      where
        journey_with : List HopNote → Journey
        journey_with ns = record { rec = before.records; worker = 0; hops = ns }

    one_more : (n : ℕ) → n + 1 ≡ suc n
    one_more n = omega arith
