-- Each step of a run makes parts that are derived from the trace, came to its hop, and send on what it sends.
use Rattle.std.proofs.Common.{◌≡◌, refl, sym, ap, ◌∙◌, ℕ, ◌<◌, inl, inr, Bool, List, [], ◌∷◌, ◌++◌, map, length, Option, Some, subst, append_assoc, zero-add}
use Rattle.std.specs.Prelude.{slice_get}
use Rattle.octets.specs.declared.parcel.Parcel.{Parcel}
use Rattle.nat_model.specs.declared.entry.Entry.{Entry}
use Rattle.nat_model.specs.declared.entry.Who.{Who}
use Rattle.nat_model.specs.declared.stripe.StripeEntry.{StripeEntry}
use Rattle.nat_model.specs.Parcels.{edge_log, Frees, HasWaited}
use Rattle.nat_model.proofs.ParcelHistory.{edge-waited, stripe-waited}
use Rattle.edge_node.specs.declared.way.Way.{Way}
use Rattle.relay_node.specs.Asked.{stripe}
use Rattle.setup_tables.specs.declared.edge.EdgeLine.{EdgeLine}
use Rattle.mapt_setup.specs.declared.setup.Setup.{Setup}
use Rattle.mapt_setup.specs.declared.script.ScriptItem.{ScriptItem}
use Rattle.domain_core.specs.declared.history.EdgeHistory.{EdgeHistory}
use Rattle.domain_core.specs.declared.history.EdgeNote.{EdgeNote}
use Rattle.domain_core.specs.declared.history.StripeHistory.{StripeHistory}
use Rattle.domain_core.specs.declared.history.StripeNote.{StripeNote}
use Rattle.domain_core.specs.declared.journey.HopNote.{HopNote}
use Rattle.domain_core.specs.declared.trace.Trace.{Trace}
use Rattle.domain_core.specs.declared.trace.TraceItem.{TraceItem}
use Rattle.journeys.specs.declared.stand.Stand.{Stand}
use Rattle.journeys.specs.declared.stand.Stand.TheVariants.{Edge, Relay as AtRelay}
use Rattle.journeys.specs.Answers.{and_then, note_of, edge_entry, stripe_entry}
use Rattle.journeys.specs.Walk.{Step as Made}
use Rattle.journeys.specs.Came.{came_to, IsToldHop}
use Rattle.journeys.specs.Derived.{Told, Packet, packets_of, first_of, edge_node, relay_node, Part, EdgeAt, RelayAt, AreAtLine, AreAtStand, AreOfHop}
use Rattle.journeys.specs.OneThread.{edge_start, edge_note, stripe_note, key_of}
use Rattle.journeys.specs.Run.{Histories, Step, IsAskedAt, IsUnaskedAt, IsToldAt, IsUntold, IsStepAt, IsStep, item_of, no_histories, IsRun}
use Rattle.journeys.proofs.RunLists.{Every, every_so, every_behind, get_front, get_behind, get_within, get_map, get_written, set_same}
use Rattle.journeys.proofs.RunSteps.{steps_of, packets_in, steps_with, Chain, chain_at, run_chain, IsWalked, run_walked}
use Rattle.journeys.proofs.RunDerived.{AreSentOf}
use Rattle.journeys.proofs.RunNotes.{note_in, run_notes, packet_at}
use Rattle.journeys.proofs.RunTables.{IsIn, owned_all, kept_all, IsEdgeEntry, IsStripeEntry, chain_adds, none_owned}
use Rattle.journeys.proofs.RunParts.{sent_by_came, IsSeen}
use Rattle.journeys.proofs.RunAtEdge.{asked_parts, unasked_parts}
use Rattle.journeys.proofs.RunAtRelay.{told_parts, untold_parts}

-- a step as a hop of its record
abbrev pub kept_step : Step → Made
kept_step s = record { hop = s.made.hop; taken = s.made.taken; note = s.made.note; came = s.hop }

-- one that is told sends on what it sends
told_sends : (told : Told) (known : List Packet) (s : Step) → IsToldHop told known s.made.rec (kept_step s) → AreSentOf told known s.made.rec s
told_sends told known s is = (
  is.parts,
  subst (λ (n : Option HopNote). AreOfHop told known s.made.rec s.made.taken n is.parts) (sym is.noted) is.makes,
  sent_by_came told.setup s.made.taken.stand is.parts s.hop is.comes,
)

-- what holds of each element, where it stands among them
every_at : {A : Type 0} (P : A → Type 0) (front xs : List A) → ((before : List A) (x : A) (behind : List A) → front ++ xs ≡ before ++ x ∷ behind → P x) → Every P xs
every_at P front [] so = tt
every_at P front (x ∷ xs) so = (
  so front x xs refl,
  every_at P (front ++ x ∷ []) xs (λ before y behind is. so before y behind (sym (append_assoc front (x ∷ []) xs) ∙ is)),
)

module _ (setup : Setup) (script : List ScriptItem) (trace : Trace) (run : IsRun setup script trace) where
  abbrev pub told : Told
  told = record { setup = setup; script = script; trace = trace }

  abbrev pub all_steps : List Step
  all_steps = steps_of run.runs

  pub walked : (rec : ℕ) → IsWalked setup (first_of told rec) (steps_with rec all_steps)
  walked rec =
      subst (λ (n : ℕ). IsWalked setup (first_of told rec) (steps_with n all_steps)) (zero-add rec)
      (run_walked setup 0 0 script run.runs (no_histories setup) run.after run.are rec)

  pub chain : Chain setup all_steps (no_histories setup) run.after
  chain = run_chain setup 0 0 script run.runs (no_histories setup) run.after run.are

  -- ---- what the trace has of a step

  note_at : (xs : List Step) (s : Step) (ys : List Step) → all_steps ≡ xs ++ s ∷ ys → note_of trace s.made.rec s.made.hop ≡ Some s.made.note
  note_at xs s ys is =
      ap (λ (items : List TraceItem). note_in items s.made.rec s.made.hop) run.items
      ∙ every_behind Noted xs s ys (subst (λ (ss : List Step). Every Noted ss) is (run_notes setup 0 0 script run.runs (no_histories setup) run.after run.are))
    where
      Noted : Step → Type 0
      Noted x = note_in (map item_of run.runs) x.made.rec x.made.hop ≡ Some x.made.note

  -- an earlier one is seen
  seen_in : (xs ys rest : List Step) (s : Step) → all_steps ≡ (xs ++ s ∷ ys) ++ rest → (x : Step) → IsIn x xs → (who : Who)
      → who.rec ≡ x.made.rec → who.hop ≡ x.made.hop → IsSeen told (packets_in (xs ++ s ∷ ys)) who x.made.taken x.made.note
  seen_in xs ys rest s is x (front, behind, among) who same_rec same_hop =
      let here : xs ++ s ∷ ys ≡ front ++ x ∷ (behind ++ s ∷ ys) = ap (λ (ss : List Step). ss ++ s ∷ ys) among ∙ append_assoc front (x ∷ behind) (s ∷ ys) in
      let whole : all_steps ≡ (front ++ x ∷ (behind ++ s ∷ ys)) ++ rest = is ∙ ap (λ (ss : List Step). ss ++ rest) here in
      record {
        note_is = ap (λ (n : ℕ). note_of trace n who.hop) same_rec ∙ ap (λ (n : ℕ). note_of trace x.made.rec n) same_hop
            ∙ note_at front x ((behind ++ s ∷ ys) ++ rest) (whole ∙ append_assoc front (x ∷ (behind ++ s ∷ ys)) rest);
        packet_is = ap (λ (n : ℕ). slice_get (packets_of n (packets_in (xs ++ s ∷ ys))) who.hop) same_rec
            ∙ ap (λ (n : ℕ). slice_get (packets_of x.made.rec (packets_in (xs ++ s ∷ ys))) n) same_hop
            ∙ ap (λ (ss : List Step). slice_get (packets_of x.made.rec (packets_in ss)) x.made.hop) here
            ∙ packet_at setup (first_of told) all_steps walked front x (behind ++ s ∷ ys) rest whole;
      }

  -- ---- what it has of an entry

  edge_written : (number : ℕ) (entries : List Entry) → slice_get run.after.edges number ≡ Some entries
      → (k : ℕ) (e : Entry) → slice_get entries k ≡ Some e → edge_entry trace number k ≡ Some (edge_note e)
  edge_written number entries there k e is =
      let notes = get_written (λ (h : EdgeHistory). h.notes) trace.edges number (map edge_note entries)
      (ap (λ (hs : List (List EdgeNote)). slice_get hs number) run.edges ∙ get_map (map edge_note) run.after.edges number entries there) in
      ap (λ (h : Option EdgeHistory). and_then h (λ (x : EdgeHistory). slice_get x.notes k)) notes.1
      ∙ ap (λ (ns : List EdgeNote). slice_get ns k) (sym notes.2) ∙ get_map edge_note entries k e is

  stripe_written : (number : ℕ) (entries : List StripeEntry) → slice_get run.after.stripes number ≡ Some entries
      → (k : ℕ) (e : StripeEntry) → slice_get entries k ≡ Some e → stripe_entry trace number k ≡ Some (stripe_note e)
  stripe_written number entries there k e is =
      let notes = get_written (λ (h : StripeHistory). h.notes) trace.stripes number (map stripe_note entries)
      (ap (λ (hs : List (List StripeNote)). slice_get hs number) run.stripes_are ∙ get_map (map stripe_note) run.after.stripes number entries there) in
      ap (λ (h : Option StripeHistory). and_then h (λ (x : StripeHistory). slice_get x.notes k)) notes.1
      ∙ ap (λ (ns : List StripeNote). slice_get ns k) (sym notes.2) ∙ get_map stripe_note entries k e is

  edge_waited : (number : ℕ) (entries : List Entry) → slice_get run.after.edges number ≡ Some entries
      → (place a : ℕ) (p : Parcel) → Frees edge_log entries place a p → HasWaited edge_log entries place p
  edge_waited number entries there place a p frees =
      let good = run.good number entries there in
      edge-waited (edge_start setup number good.0) good.2.0 entries place a p good.2.2 frees

  -- ---- one step

  -- where its packet stands
  abbrev CameAt : List Packet → Step → Stand → Type 0
  CameAt known s stand =
      (parts : List Part) × AreAtStand told known s.made.rec (record { stand = stand; octets = s.made.taken.octets }) s.made.note parts
      × (came_to parts ≡ Some s.hop)

  -- behind these steps, which the step follows that are known, and before others
  module _ (xs : List Step) (s : Step) (ys rest : List Step) (is : all_steps ≡ (xs ++ s ∷ ys) ++ rest) (from to : Histories)
      (before : Chain setup xs (no_histories setup) from) (behind : Chain setup (ys ++ rest) to run.after)
    where
      abbrev known : List Packet
      known = packets_in (xs ++ s ∷ ys)

      -- at an edge
      asked_came : (number : ℕ) (way : Way) (line : EdgeLine) → slice_get setup.edges number ≡ Some line → IsAskedAt setup line number way s from to
          → CameAt known s (Edge number way)
      asked_came number way line at_line asked =
          let added : slice_get to.edges number ≡ Some (asked.entries ++ asked.entry ∷ []) =
          ap (λ (h : Histories). slice_get h.edges number) asked.adds
          ∙ set_same from.edges number asked.entries (asked.entries ++ asked.entry ∷ []) asked.history in
          let kept = kept_all IsEdgeEntry (ys ++ rest) to.edges run.after.edges (chain_adds setup (ys ++ rest) to run.after behind).0 number
          (asked.entries ++ asked.entry ∷ []) added in
          let entries : List Entry = (asked.entries ++ asked.entry ∷ []) ++ kept.0 in
          let at : EdgeAt = record { number = number; way = way; node = edge_node setup s.made.rec line } in
          let parts = asked_parts told known at entries (length asked.entries) asked.entry (edge_written number entries kept.1)
          (get_front (asked.entries ++ asked.entry ∷ []) kept.0 (length asked.entries) asked.entry (get_behind asked.entries [] asked.entry))
          (edge_waited number entries kept.1 (length asked.entries))
          (seen number asked.entries asked.entry kept.0 asked.history)
          s.made.taken.octets asked.ask asked.asked asked.is.asked s.made.note s.hop asked.stripe asked.place asked.kind asked.sends in (
            parts.0,
            subst (λ (l : Option EdgeLine). AreAtLine told known s.made.rec (number, way) l s.made.taken.octets s.made.note parts.0) (sym at_line) parts.1,
            parts.2,
          )
        where
          seen : (number : ℕ) (entries : List Entry) (entry : Entry) (more : List Entry) → slice_get from.edges number ≡ Some entries
              → (k : ℕ) (e : Entry) → k < length entries → slice_get ((entries ++ entry ∷ []) ++ more) k ≡ Some e
              → (x : Step) × IsSeen told known e.mark.who x.made.taken x.made.note × IsEdgeEntry number x e
          seen number entries entry more there k e within at =
              let owned = owned_all IsEdgeEntry [] xs (no_histories setup).edges from.edges (none_owned setup).0 (chain_adds setup xs (no_histories setup) from before).0
              number entries k e there
              (get_within entries (entry ∷ more) k e within (ap (λ (es : List Entry). slice_get es k) (sym (append_assoc entries (entry ∷ []) more)) ∙ at)) in
              (owned.0, seen_in xs ys rest s is owned.0 owned.1 e.mark.who owned.2.is.rec owned.2.is.hop, owned.2)

      unasked_came : (number : ℕ) (way : Way) (line : EdgeLine) → slice_get setup.edges number ≡ Some line → IsUnaskedAt setup line way s from to
          → CameAt known s (Edge number way)
      unasked_came number way line at_line unasked =
          let at : EdgeAt = record { number = number; way = way; node = edge_node setup s.made.rec line } in
          let parts = unasked_parts told known at s.made.taken.octets s.made.note unasked.0 s.hop unasked.1 unasked.3 in (
            parts.0,
            subst (λ (l : Option EdgeLine). AreAtLine told known s.made.rec (number, way) l s.made.taken.octets s.made.note parts.0) (sym at_line) parts.1,
            parts.2,
          )

      -- at the relay
      told_came : (six : Bool) → IsToldAt setup six s from to → CameAt known s (AtRelay six)
      told_came six asked =
          let number : ℕ = stripe (key_of asked.ask) in
          let added : slice_get to.stripes number ≡ Some (asked.entries ++ asked.entry ∷ []) =
          ap (λ (h : Histories). slice_get h.stripes number) asked.adds
          ∙ set_same from.stripes number asked.entries (asked.entries ++ asked.entry ∷ []) asked.history in
          let kept = kept_all IsStripeEntry (ys ++ rest) to.stripes run.after.stripes (chain_adds setup (ys ++ rest) to run.after behind).1 number
          (asked.entries ++ asked.entry ∷ []) added in
          let entries : List StripeEntry = (asked.entries ++ asked.entry ∷ []) ++ kept.0 in
          let at : RelayAt = record { relay = relay_node setup s.made.rec s.made.note.seen; six = six; stripe = s.made.note.stripe } in
          told_parts told known at number entries (length asked.entries) asked.entry asked.stripe_is (stripe_written number entries kept.1)
          (get_front (asked.entries ++ asked.entry ∷ []) kept.0 (length asked.entries) asked.entry (get_behind asked.entries [] asked.entry))
          (λ a p frees. stripe-waited entries (length asked.entries) a p (run.good_stripes number entries kept.1) frees)
          (seen number asked.entries asked.entry kept.0 asked.history)
          s.made.taken.octets asked.ask asked.asked asked.is.asked s.made.note s.hop refl asked.place asked.kind asked.sends
        where
          seen : (number : ℕ) (entries : List StripeEntry) (entry : StripeEntry) (more : List StripeEntry) → slice_get from.stripes number ≡ Some entries
              → (k : ℕ) (e : StripeEntry) → k < length entries → slice_get ((entries ++ entry ∷ []) ++ more) k ≡ Some e
              → (x : Step) × IsSeen told known e.who x.made.taken x.made.note × IsStripeEntry number x e
          seen number entries entry more there k e within at =
              let owned = owned_all IsStripeEntry [] xs (no_histories setup).stripes from.stripes (none_owned setup).1 (chain_adds setup xs (no_histories setup) from before).1
              number entries k e there
              (get_within entries (entry ∷ more) k e within (ap (λ (es : List StripeEntry). slice_get es k) (sym (append_assoc entries (entry ∷ []) more)) ∙ at)) in
              (owned.0, seen_in xs ys rest s is owned.0 owned.1 e.who owned.2.is.rec owned.2.is.hop, owned.2)

      untold_came : (six : Bool) → IsUntold setup six s from to → CameAt known s (AtRelay six)
      untold_came six asked =
          let at : RelayAt = record { relay = relay_node setup s.made.rec s.made.note.seen; six = six; stripe = s.made.note.stripe } in
          untold_parts told known at s.made.taken.octets s.made.note s.hop asked.0 asked.2

      step_at : (stand : Stand) → IsStepAt setup stand s from to → CameAt known s stand
      step_at (Edge number way) (line, there, inl unasked) = unasked_came number way line there unasked
      step_at (Edge number way) (line, there, inr asked) = asked_came number way line there asked
      step_at (AtRelay six) (inl asked) = untold_came six asked
      step_at (AtRelay six) (inr asked) = told_came six asked

      step_told : IsStep setup s from to → IsToldHop told known s.made.rec (kept_step s)
      step_told step =
          let parts = step_at s.made.taken.stand step in
          record {
            takes = packet_at setup (first_of told) all_steps walked xs s ys rest is;
            noted = note_at xs s (ys ++ rest) (is ∙ append_assoc xs (s ∷ ys) rest);
            parts = parts.0;
            makes = parts.1;
            comes = parts.2;
          }

  -- and all of them
  pub all_told : (known rest : List Step) → all_steps ≡ known ++ rest → Every (λ (s : Step). IsToldHop told (packets_in known) s.made.rec (kept_step s)) known
  all_told known rest is = every_at (λ (s : Step). IsToldHop told (packets_in known) s.made.rec (kept_step s)) [] known one
    where
      one : (xs : List Step) (s : Step) (ys : List Step) → known ≡ xs ++ s ∷ ys → IsToldHop told (packets_in known) s.made.rec (kept_step s)
      one xs s ys among =
          let whole : all_steps ≡ (xs ++ s ∷ ys) ++ rest = is ∙ ap (λ (ss : List Step). ss ++ rest) among in
          let at = chain_at setup xs s (ys ++ rest) (no_histories setup) run.after
          (subst (λ (ss : List Step). Chain setup ss (no_histories setup) run.after) (whole ∙ append_assoc xs (s ∷ ys) rest) chain) in
          subst (λ (ss : List Step). IsToldHop told (packets_in ss) s.made.rec (kept_step s)) (sym among)
          (step_told xs s ys rest whole at.0 at.1 at.2 at.4 at.3)

  pub all_sent : (known rest : List Step) → all_steps ≡ known ++ rest → Every (λ (s : Step). AreSentOf told (packets_in known) s.made.rec s) known
  all_sent known rest is =
      every_so (λ (s : Step). IsToldHop told (packets_in known) s.made.rec (kept_step s)) (λ (s : Step). AreSentOf told (packets_in known) s.made.rec s)
      (λ s. told_sends told (packets_in known) s) known (all_told known rest is)
