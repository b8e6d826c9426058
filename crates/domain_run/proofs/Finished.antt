-- A replay of a whole script is the run of one worker, and its trace has the form of one.
use Rattle.std.proofs.Common.{◌≡◌, refl, sym, ap, ◌∙◌, ℕ, zero, suc, ◌<◌, ◌≤◌, Bool, true, List, [], ◌∷◌, ◌++◌, map, length, drop, take, Option, Some, subst, arith}
use Rattle.std.specs.Prelude.{get_or, slice_get, IsTrue, nat_le, nat_eq, ◌&&◌}
use Rattle.std.specs.List.{list_all}
use Rattle.std.proofs.lemmas.Bool.{le-leb, eq-eqb}
use Rattle.std.proofs.lemmas.List.{length-map}
use Rattle.std.proofs.lemmas.Option.{slice_get_within}
use Rattle.nat_model.specs.declared.entry.Entry.{Entry}
use Rattle.nat_model.specs.declared.stripe.StripeEntry.{StripeEntry}
use Rattle.nat_model.specs.History.{EdgeStart, IsGood}
use Rattle.nat_model.specs.Stripe.{IsGoodStripe}
use Rattle.nat_model.specs.Machine.{nat}
use Rattle.edge_core.specs.Shown.{EdgeShown, StripeShown}
use Rattle.setup_tables.specs.declared.edge.EdgeLine.{EdgeLine}
use Rattle.mapt_setup.specs.declared.script.ScriptItem.{ScriptItem}
use Rattle.mapt_setup.specs.declared.setup.Setup.{Setup}
use Rattle.domain_core.specs.declared.history.EdgeHistory.{EdgeHistory}
use Rattle.domain_core.specs.declared.history.StripeHistory.{StripeHistory}
use Rattle.domain_core.specs.declared.trace.Trace.{Trace}
use Rattle.domain_core.specs.declared.trace.TraceItem.{TraceItem}
use Rattle.domain_core.specs.Form.{has_form, is_item_written, is_edge_written, is_stripe_written, most_edges, stripe_count}
use Rattle.journeys.specs.OneThread.{edge_note, stripe_note, edge_start, IsOneThread}
use Rattle.journeys.specs.Came.{AreKept}
use Rattle.journeys.specs.Run.{IsRun, IsGoodAt, no_histories}
use Rattle.domain_run.specs.declared.replay.Replay.{Replay}
use Rattle.domain_run.specs.Machines.{histories_of, AreMachines}
use Rattle.domain_run.specs.Items.{IsReplayed}
use Rattle.journeys.proofs.RunIsTrace.{run_is_one_thread}
use Rattle.journeys.proofs.RunKept.{run_is_kept}
use Rattle.domain_run.proofs.Replaying.{runs_of}

-- what stands within a list
there : {X : Type 0} (xs : List X) (k : ℕ) → k < length xs → (x : X) × (slice_get xs k ≡ Some x)
there [] k within = absurd (omega (arith, within))
there (x ∷ xs) zero within = (x, refl)
there (x ∷ xs) (suc k) within = there xs k (omega (arith, within))

-- and what stands in the list of what these show
shown : {X Y : Type 0} (f : X → Y) (xs : List X) (k : ℕ) (y : Y) → slice_get (map f xs) k ≡ Some y → (x : X) × (slice_get xs k ≡ Some x) × (f x ≡ y)
shown f [] k y e = absurd (cc)
shown f (x ∷ xs) zero y e = (x, refl, same (f x) y e)
  where
    same : {Y : Type 0} (a b : Y) → ◌≡◌ {A = Option Y} (Some a) (Some b) → a ≡ b
    same a b e = cc
shown f (x ∷ xs) (suc k) y e = shown f xs k y e

good_at : (setup : Setup) (changes : ℕ) (replay : Replay) (number : ℕ) (entries : List Entry) → AreMachines setup changes replay.machines
    → slice_get (histories_of replay.machines).edges number ≡ Some entries → IsGoodAt setup number entries
good_at setup changes replay number entries are e = by (shown (λ (s : EdgeShown). s.history) replay.machines.edges.items number entries e)
  where
    by : (edge : EdgeShown) × (slice_get replay.machines.edges.items number ≡ Some edge) × (edge.history ≡ entries) → IsGoodAt setup number entries
    by (edge, here, is) = at (there setup.edges number (subst (λ (n : ℕ). number < n) are.edge_count (slice_get_within replay.machines.edges.items number edge here)))
      where
        at : (line : EdgeLine) × (slice_get setup.edges number ≡ Some line) → IsGoodAt setup number entries
        at (line, there_is) =
            let it = are.edges number line edge there_is here in (
              line,
              there_is,
              (
                edge.books,
                it.books,
                subst (λ (es : List Entry). IsGood nat (edge_start setup number line) edge.books es) is
                    (subst (λ (s : EdgeStart). IsGood nat s edge.books edge.history) it.start it.keeps.good),
              ),
            )

good_stripe_at : (setup : Setup) (changes : ℕ) (replay : Replay) (number : ℕ) (entries : List StripeEntry) → AreMachines setup changes replay.machines
    → slice_get (histories_of replay.machines).stripes number ≡ Some entries → IsGoodStripe entries
good_stripe_at setup changes replay number entries are e = by (shown (λ (s : StripeShown). s.history) replay.machines.stripes.items number entries e)
  where
    by : (stripe : StripeShown) × (slice_get replay.machines.stripes.items number ≡ Some stripe) × (stripe.history ≡ entries) → IsGoodStripe entries
    by (stripe, here, is) = subst IsGoodStripe is (are.stripes_are number stripe here).good

-- the run
abbrev finished : (setup : Setup) (script : List ScriptItem) (replay : Replay) (trace : Trace) → IsReplayed setup script replay → trace.workers ≡ 1
    → trace.items ≡ replay.items.items
    → map (λ (h : EdgeHistory). h.notes) trace.edges ≡ map (map edge_note) (map (λ (e : EdgeShown). e.history) replay.machines.edges.items)
    → map (λ (h : StripeHistory). h.notes) trace.stripes ≡ map (map stripe_note) (map (λ (s : StripeShown). s.history) replay.machines.stripes.items)
    → IsRun setup script trace
finished setup script replay trace is workers items edges stripes = record {
  runs = is.runs;
  after = histories_of replay.machines;
  are = runs_of setup script 0 0 is.runs (no_histories setup) (histories_of replay.machines) replay.records replay.changes is.are;
  workers = workers;
  items = items ∙ is.items;
  edges = edges;
  stripes_are = stripes;
  good = λ number entries e. good_at setup replay.changes replay number entries is.machines e;
  good_stripes = λ number entries e. good_stripe_at setup replay.changes replay number entries is.machines e;
}

-- what its trace is, and what is kept of it
pub ends : (setup : Setup) (script : List ScriptItem) (replay : Replay) (trace : Trace) → IsReplayed setup script replay → trace.workers ≡ 1
    → trace.items ≡ replay.items.items
    → map (λ (h : EdgeHistory). h.notes) trace.edges ≡ map (map edge_note) (map (λ (e : EdgeShown). e.history) replay.machines.edges.items)
    → map (λ (h : StripeHistory). h.notes) trace.stripes ≡ map (map stripe_note) (map (λ (s : StripeShown). s.history) replay.machines.stripes.items)
    → IsOneThread (record { setup = setup; script = script; trace = trace })
    × AreKept (record { setup = setup; script = script; trace = trace }) replay.kept.items
ends setup script replay trace is workers items edges stripes =
    let run : IsRun setup script trace = finished setup script replay trace is workers items edges stripes in (
      run_is_one_thread setup script trace run,
      subst (AreKept (record { setup = setup; script = script; trace = trace })) (sym is.kept) (run_is_kept setup script trace run),
    )

-- ---- its form

many : {X Y Z : Type 0} (f : X → Z) (g : Y → Z) (xs : List X) (ys : List Y) → map f xs ≡ map g ys → length xs ≡ length ys
many f g xs ys e = sym (length-map xs f) ∙ ap (λ zs. length zs) e ∙ length-map ys g

all_true : (a b c d e : Bool) → a ≡ true → b ≡ true → c ≡ true → d ≡ true → e ≡ true → (a && ((b && c) && (d && e))) ≡ true
all_true a b c d e p q r s t = rw (p, q, r, s, t) refl

pub formed : (setup : Setup) (script : List ScriptItem) (replay : Replay) (items : List TraceItem) (edges : List EdgeHistory) (stripes : List StripeHistory)
    → IsReplayed setup script replay → length setup.edges ≤ 256 → items ≡ replay.items.items
    → map (λ (h : EdgeHistory). h.notes) edges ≡ map (map edge_note) (map (λ (e : EdgeShown). e.history) replay.machines.edges.items)
    → map (λ (h : StripeHistory). h.notes) stripes ≡ map (map stripe_note) (map (λ (s : StripeShown). s.history) replay.machines.stripes.items)
    → IsTrue (list_all is_edge_written edges) → IsTrue (list_all is_stripe_written stripes) → IsTrue (has_form 1 items edges stripes)
formed setup script replay items edges stripes is few items_are edges_are stripes_are edge_form stripe_form =
    all_true (list_all is_item_written items) (nat_le (length edges) most_edges) (list_all is_edge_written edges) (nat_eq (length stripes) stripe_count) (list_all is_stripe_written stripes)
    (subst (λ (xs : List TraceItem). IsTrue (list_all is_item_written xs)) (sym items_are) is.form)
    (le-leb (length edges) most_edges (omega (arith, few, edge_many, is.machines.edge_count)))
    edge_form (eq-eqb (length stripes) stripe_count (stripe_many ∙ is.machines.stripe_count)) stripe_form
  where
    edge_many : length edges ≡ length replay.machines.edges.items
    edge_many =
        many (λ (h : EdgeHistory). h.notes) (map edge_note) edges (map (λ (e : EdgeShown). e.history) replay.machines.edges.items) edges_are
        ∙ length-map replay.machines.edges.items (λ (e : EdgeShown). e.history)

    stripe_many : length stripes ≡ length replay.machines.stripes.items
    stripe_many =
        many (λ (h : StripeHistory). h.notes) (map stripe_note) stripes (map (λ (s : StripeShown). s.history) replay.machines.stripes.items) stripes_are
        ∙ length-map replay.machines.stripes.items (λ (s : StripeShown). s.history)

-- a list around an element of it
pub around : {X : Type 0} (xs : List X) (i : ℕ) (d : X) → i < length xs → take i xs ++ get_or xs i d ∷ drop (suc i) xs ≡ xs
around [] i d within = absurd (omega (arith, within))
around (x ∷ xs) zero d within = refl
around (x ∷ xs) (suc i) d within = ap (λ ys. x ∷ ys) (around xs i d (omega (arith, within)))
