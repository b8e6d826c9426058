-- The trace of a run is that of one worker, as it is derived packet by packet from the answers in it.
use Rattle.std.proofs.Common.{◌≡◌, refl, sym, ap, ◌∙◌, ℕ, zero, suc, List, [], ◌∷◌, map, length, replicate, Some, subst, arith}
use Rattle.std.specs.Prelude.{slice_get}
use Rattle.std.proofs.lemmas.List.{length-map, length-replicate}
use Rattle.nat_model.specs.declared.entry.Entry.{Entry}
use Rattle.nat_model.specs.declared.stripe.StripeEntry.{StripeEntry}
use Rattle.relay_node.specs.Asked.{stripes}
use Rattle.setup_tables.specs.declared.edge.EdgeLine.{EdgeLine}
use Rattle.mapt_setup.specs.declared.setup.Setup.{Setup}
use Rattle.mapt_setup.specs.declared.script.ScriptItem.{ScriptItem}
use Rattle.domain_core.specs.declared.history.EdgeHistory.{EdgeHistory}
use Rattle.domain_core.specs.declared.history.EdgeNote.{EdgeNote}
use Rattle.domain_core.specs.declared.history.StripeHistory.{StripeHistory}
use Rattle.domain_core.specs.declared.history.StripeNote.{StripeNote}
use Rattle.domain_core.specs.declared.trace.Trace.{Trace}
use Rattle.domain_core.specs.declared.trace.TraceItem.{TraceItem}
use Rattle.journeys.specs.Derived.{Told, Packet}
use Rattle.journeys.specs.OneThread.{HopMade, AreItems, all_hops, edge_note, stripe_note, AreEdgeEntries, AreStripeEntries, IsEdgeHistory, IsStripeHistory, IsOneThread}
use Rattle.journeys.specs.Run.{Step, no_histories, IsRun}
use Rattle.journeys.proofs.RunLists.{get_map, get_written}
use Rattle.journeys.proofs.RunSteps.{packets_in, packets_with}
use Rattle.journeys.proofs.RunDerived.{are_derived, are_all}
use Rattle.journeys.proofs.RunTables.{IsEdgeEntry, IsStripeEntry, chain_adds, length_all}
use Rattle.journeys.proofs.RunSent.{all_steps, walked, chain, all_sent}
use Rattle.journeys.proofs.RunItems.{hops_of, AreTaken, run_items, run_hops}
use Rattle.journeys.proofs.RunEntries.{edge_entries, stripe_entries}
use Rattle.journeys.proofs.RunGood.{good_at}

module _ (setup : Setup) (script : List ScriptItem) (trace : Trace) (run : IsRun setup script trace) where
  abbrev steps : List Step
  steps = all_steps setup script trace run

  abbrev packets : List Packet
  packets = packets_in steps

  are_taken : AreTaken packets 0 steps
  are_taken rec from = packets_with rec steps

  are_items : AreItems packets 0 0 script trace.items
  are_items =
      subst (λ (items : List TraceItem). AreItems packets 0 0 script items) (sym run.items)
      (run_items setup packets 0 0 script run.runs (no_histories setup) run.after run.are are_taken)

  are_hops : all_hops packets 0 script trace.items ≡ hops_of steps
  are_hops =
      ap (all_hops packets 0 script) run.items
      ∙ run_hops setup packets 0 0 script run.runs (no_histories setup) run.after run.are are_taken

  -- ---- the histories

  edge_length : length trace.edges ≡ length setup.edges
  edge_length =
      sym (length-map trace.edges (λ (h : EdgeHistory). h.notes)) ∙ ap length run.edges ∙ length-map run.after.edges (map edge_note)
      ∙ length_all IsEdgeEntry steps (no_histories setup).edges run.after.edges (chain_adds setup steps (no_histories setup) run.after (chain setup script trace run)).0
      ∙ length-map setup.edges (λ (line : EdgeLine). [])

  -- none of its stripes has an entry at the outset
  abbrev no_entries : List StripeEntry
  no_entries = []

  stripes_left : length run.after.stripes ≡ stripes
  stripes_left =
      length_all IsStripeEntry steps (no_histories setup).stripes run.after.stripes (chain_adds setup steps (no_histories setup) run.after (chain setup script trace run)).1
      ∙ length-replicate stripes no_entries

  stripe_length : length trace.stripes ≡ stripes
  stripe_length =
      sym (length-map trace.stripes (λ (h : StripeHistory). h.notes)) ∙ ap length run.stripes_are ∙ length-map run.after.stripes (map stripe_note) ∙ stripes_left

  no_stripe_yet : (n number : ℕ) (table : List (List StripeEntry)) (entries : List StripeEntry) → length table ≡ n → slice_get table number ≡ Some entries
      → slice_get (replicate n no_entries) number ≡ Some no_entries
  no_stripe_yet n number [] entries same there = absurd (cc)
  no_stripe_yet zero number (es ∷ table) entries same there = absurd (omega (arith, same))
  no_stripe_yet (suc n) zero (es ∷ table) entries same there = refl
  no_stripe_yet (suc n) (suc number) (es ∷ table) entries same there = no_stripe_yet n number table entries (omega (arith, same)) there

  abbrev no_edge_entries : List Entry
  no_edge_entries = []

  edge_history : (number : ℕ) (notes : List EdgeNote) → slice_get (map (λ (h : EdgeHistory). h.notes) trace.edges) number ≡ Some notes
      → IsEdgeHistory setup (all_hops packets 0 script trace.items) number notes
  edge_history number notes there =
      let written = get_written (map edge_note) run.after.edges number notes (ap (λ (hs : List (List EdgeNote)). slice_get hs number) (sym run.edges) ∙ there) in
      let good = run.good number written.0 written.1 in
      let left = edge_entries setup number steps (no_histories setup) run.after (chain setup script trace run) []
      (get_map (λ (line : EdgeLine). no_edge_entries) setup.edges number good.0 good.1) in
      let same : left.0 ≡ written.0 = some left.0 written.0 (sym left.1 ∙ written.1) in
      record {
        line = good.0;
        there = good.1;
        entries = written.0;
        good = good_at setup number written.0 good;
        asked = subst (λ (hops : List HopMade). AreEdgeEntries number 0 hops written.0) (sym are_hops)
            (subst (λ (es : List Entry). AreEdgeEntries number 0 (hops_of steps) es) same left.2);
        written = written.2;
      }
    where
      some : (x y : List Entry) → Some x ≡ Some y → x ≡ y
      some x y equal = cc

  stripe_history : (number : ℕ) (notes : List StripeNote) → slice_get (map (λ (h : StripeHistory). h.notes) trace.stripes) number ≡ Some notes
      → IsStripeHistory (all_hops packets 0 script trace.items) number notes
  stripe_history number notes there =
      let written = get_written (map stripe_note) run.after.stripes number notes
      (ap (λ (hs : List (List StripeNote)). slice_get hs number) (sym run.stripes_are) ∙ there) in
      let left = stripe_entries setup number steps (no_histories setup) run.after (chain setup script trace run) []
      (no_stripe_yet stripes number run.after.stripes written.0 stripes_left written.1) in
      let same : left.0 ≡ written.0 = some left.0 written.0 (sym left.1 ∙ written.1) in
      record {
        entries = written.0;
        good = run.good_stripes number written.0 written.1;
        asked = subst (λ (hops : List HopMade). AreStripeEntries number 0 hops written.0) (sym are_hops)
            (subst (λ (es : List StripeEntry). AreStripeEntries number 0 (hops_of steps) es) same left.2);
        written = written.2;
      }
    where
      some : (x y : List StripeEntry) → Some x ≡ Some y → x ≡ y
      some x y equal = cc

-- the trace of a run is that of one worker
pub run_is_one_thread : (setup : Setup) (script : List ScriptItem) (trace : Trace) → IsRun setup script trace
    → IsOneThread (record { setup = setup; script = script; trace = trace })
run_is_one_thread setup script trace run =
    let told : Told = record { setup = setup; script = script; trace = trace } in
    record {
      workers = run.workers;
      packets = packets setup script trace run;
      derived = are_derived told (steps setup script trace run) (walked setup script trace run) (all_sent setup script trace run);
      whole = are_all told (steps setup script trace run) (walked setup script trace run) (all_sent setup script trace run);
      items = are_items setup script trace run;
      edge_count = edge_length setup script trace run;
      edges = edge_history setup script trace run;
      stripe_count = stripe_length setup script trace run;
      stripes_are = stripe_history setup script trace run;
    }
