-- Parcels in a history: each that is freed has waited, and none is freed twice.
use Rattle.std.proofs.Common.{◌≡◌, ℕ, zero, suc, ◌+◌, ◌<◌, ◌≤◌, Bool, true, false, cond, IsTrue, List, [], ◌∷◌, Some, None, refl, sym, ap, ◌∙◌, subst, arith, inl, inr, ◌⊎◌, ⊎_elim, zero-add}
use Rattle.std.specs.Prelude.{◌==◌, slice_get}
use Rattle.std.proofs.lemmas.Bool.{eq-eqb, eqb-true}
use Rattle.octets.specs.declared.parcel.Parcel.{Parcel}
use Rattle.octets.specs.declared.prefix.Prefix6.{Prefix6}
use Rattle.l4_headers.specs.declared.ports.Ports.{Ports}
use Rattle.frag_table.specs.declared.key.FragKey.{FragKey}
use Rattle.frag_table.specs.declared.note.Note.{Note}
use Rattle.frag_table.specs.declared.ask.FragAsk.{FragAsk}
use Rattle.frag_table.specs.declared.ask.FragAsk.TheVariants.{First as FirstAsk, Later as LaterAsk}
use Rattle.frag_table.specs.declared.answer.FragAnswer.{FragAnswer}
use Rattle.frag_table.specs.State.{FragState}
use Rattle.frag_table.specs.Frag.{frag, freed_by}
use Rattle.frag_table.proofs.AnswerKinds.{frag-kind}
use Rattle.frag_table.proofs.HeldParcels.{HasWaited as WaitedUnder, HaveWaited, NotesHold, notes-later, frag-hold, frag-releases, times, times_held, frag-counted}
use Rattle.nat_model.specs.declared.answer.Answer.{Answer}
use Rattle.nat_model.specs.declared.ask.Part.{Part}
use Rattle.nat_model.specs.declared.ask.Part.TheVariants.{Whole, First, Later}
use Rattle.nat_model.specs.declared.entry.Entry.{Entry}
use Rattle.nat_model.specs.declared.stripe.StripeEntry.{StripeEntry}
use Rattle.nat_model.specs.Fragment.{ports_of, part_of, frag_ask_of}
use Rattle.nat_model.specs.History.{EdgeStart, Reached, outset, entry_step, further, AreGoodFrom, IsGood}
use Rattle.nat_model.specs.Machine.{nat}
use Rattle.nat_model.specs.Parcels.{Log, edge_log, stripe_log, part_in, waits_by, is_held, Frees, HasWaited}
use Rattle.nat_model.specs.State.{Generation, NatStep}
use Rattle.nat_model.specs.Stripe.{no_notes, stripe_step, AreStripeStepsFrom, IsGoodStripe}
use Rattle.nat_model.specs.Waiting.{freed_of, FreesAtMost}
use Rattle.nat_model.proofs.AnswerKinds.{freed-first}
use Rattle.nat_model.proofs.NotesAfter.{Takes, Treats, nat-treats}

-- how often a place stands among all parcels that are freed
abbrev pub times_freed : {E : Type 0} → Log E → ℕ → List E → ℕ
times_freed log k [] = 0
times_freed log k (e ∷ entries) = times k (log.freed e) + times_freed log k entries

-- a parcel at a place of a list
times-there : (ps : List Parcel) (a : ℕ) (p : Parcel) (k : ℕ) → slice_get ps a ≡ Some p → p.place ≡ k → 1 ≤ times k ps
times-there [] a p k there is = absurd (cc)
times-there (q ∷ ps) zero p k there is =
    let same : q ≡ p = cc in
    let e = eq-eqb q.place k (ap (λ (r : Parcel). r.place) same ∙ is) in
    let one : ◌≡◌ {A = ℕ} (cond (q.place == k) 1 0) 1 = ap (λ b. cond b 1 0) e in
    omega (arith, one)
times-there (q ∷ ps) (suc a) p k there is = omega (arith, times-there ps a p k there is)

times-here : (q : Parcel) (ps : List Parcel) (k : ℕ) → q.place ≡ k → times k (q ∷ ps) ≡ 1 + times k ps
times-here q ps k is =
    let one : ◌≡◌ {A = ℕ} (cond (q.place == k) 1 0) 1 = ap (λ b. cond b 1 0) (eq-eqb q.place k is) in
    omega (arith, one)

-- two parcels of one place
times-one : (ps : List Parcel) (a b : ℕ) (p q : Parcel) (k : ℕ) → slice_get ps a ≡ Some p → slice_get ps b ≡ Some q → p.place ≡ k → q.place ≡ k → times k ps ≤ 1 → a ≡ b
times-one [] a b p q k at_a at_b is_p is_q one = absurd (cc)
times-one (r ∷ ps) zero zero p q k at_a at_b is_p is_q one = refl
times-one (r ∷ ps) zero (suc b) p q k at_a at_b is_p is_q one =
    let same : r ≡ p = cc in
    absurd (omega (arith, times-here r ps k (ap (λ (x : Parcel). x.place) same ∙ is_p), times-there ps b q k at_b is_q))
times-one (r ∷ ps) (suc a) zero p q k at_a at_b is_p is_q one =
    let same : r ≡ q = cc in
    absurd (omega (arith, times-here r ps k (ap (λ (x : Parcel). x.place) same ∙ is_q), times-there ps a p k at_a is_p))
times-one (r ∷ ps) (suc a) (suc b) p q k at_a at_b is_p is_q one =
    ap suc (times-one ps a b p q k at_a at_b is_p is_q (omega arith))

module _ {E : Type 0} (log : Log E) where
  freed-there : (entries : List E) (j a : ℕ) (e : E) (p : Parcel) (k : ℕ) → slice_get entries j ≡ Some e → slice_get (log.freed e) a ≡ Some p → p.place ≡ k → 1 ≤ times_freed log k entries
  freed-there [] j a e p k at there is = absurd (cc)
  freed-there (d ∷ entries) zero a e p k at there is =
      let same : d ≡ e = cc in
      omega (arith, times-there (log.freed d) a p k (ap (λ x. slice_get (log.freed x) a) same ∙ there) is)
  freed-there (d ∷ entries) (suc j) a e p k at there is = omega (arith, freed-there entries j a e p k at there is)

  freed-one : (entries : List E) (i a j b : ℕ) (d e : E) (p q : Parcel) (k : ℕ) → slice_get entries i ≡ Some d → slice_get (log.freed d) a ≡ Some p → slice_get entries j ≡ Some e → slice_get (log.freed e) b ≡ Some q → p.place ≡ k → q.place ≡ k → times_freed log k entries ≤ 1 → (i ≡ j) × (a ≡ b)
  freed-one [] i a j b d e p q k at_i there_p at_j there_q is_p is_q one = absurd (cc)
  freed-one (c ∷ entries) zero a zero b d e p q k at_i there_p at_j there_q is_p is_q one =
      let first : c ≡ d = cc in
      let second : c ≡ e = cc in
      let in_p = ap (λ x. slice_get (log.freed x) a) first ∙ there_p in
      let in_q = ap (λ x. slice_get (log.freed x) b) second ∙ there_q in
      (refl, times-one (log.freed c) a b p q k in_p in_q is_p is_q (omega arith))
  freed-one (c ∷ entries) zero a (suc j) b d e p q k at_i there_p at_j there_q is_p is_q one =
      let first : c ≡ d = cc in
      let here = times-there (log.freed c) a p k (ap (λ x. slice_get (log.freed x) a) first ∙ there_p) is_p in
      absurd (omega (arith, here, freed-there entries j b e q k at_j there_q is_q))
  freed-one (c ∷ entries) (suc i) a zero b d e p q k at_i there_p at_j there_q is_p is_q one =
      let second : c ≡ e = cc in
      let here = times-there (log.freed c) b q k (ap (λ x. slice_get (log.freed x) b) second ∙ there_q) is_q in
      absurd (omega (arith, here, freed-there entries i a d p k at_i there_p is_p))
  freed-one (c ∷ entries) (suc i) a (suc j) b d e p q k at_i there_p at_j there_q is_p is_q one =
      let rest = freed-one entries i a j b d e p q k at_i there_p at_j there_q is_p is_q (omega arith) in
      (ap suc rest.0, rest.1)

  module _ (all : List E) where
    -- a later fragment waited at a place of the whole history
    pub record Waited (k : ℕ) (key : FragKey) (octets : List ℕ) : Type 0 where
      pub entry : E
      pub at : slice_get all k ≡ Some entry
      pub part : log.part entry ≡ Later key octets
      pub waits : IsTrue (log.waits entry)

    -- what an entry makes of the notes before it
    pub record Moves (n : ℕ) (e : E) (notes after : List Note) : Type 0 where
      pub hold : ((key : FragKey) (octets : List ℕ) → log.part e ≡ Later key octets → IsTrue (log.waits e) → Waited n key octets) → NotesHold Waited n notes → NotesHold Waited (suc n) after
      pub free : NotesHold Waited n notes → (log.freed e ≡ []) ⊎ ((key : FragKey) × (log.part e ≡ First key) × HaveWaited Waited n key (log.freed e))
      pub count : (k : ℕ) → times_held k after + times k (log.freed e) ≤ times_held k notes + cond (n == k) 1 0

    -- entries one after another
    abbrev pub Run : ℕ → List Note → List E → Type 0
    Run n notes [] = Unit {0}
    Run n notes (e ∷ entries) = (after : List Note) × Moves n e notes after × Run (suc n) after entries

    -- the place of an entry among all
    abbrev Sits : ℕ → List E → Type 0
    Sits n entries = (i : ℕ) → slice_get all (n + i) ≡ slice_get entries i

    sits-next : (n : ℕ) (e : E) (entries : List E) → Sits n (e ∷ entries) → Sits (suc n) entries
    sits-next n e entries sits i = let same : suc n + i ≡ n + suc i = omega arith in ap (slice_get all) same ∙ sits (suc i)

    have-waited : (n : ℕ) (key : FragKey) (ps : List Parcel) (a : ℕ) (p : Parcel) → HaveWaited Waited n key ps → slice_get ps a ≡ Some p → WaitedUnder Waited n key p
    have-waited n key [] a p have at = absurd (cc)
    have-waited n key (q ∷ ps) zero p have at = let same : q ≡ p = cc in let P : Parcel → Type 0 = WaitedUnder Waited n key in subst P same have.0
    have-waited n key (q ∷ ps) (suc a) p have at = have-waited n key ps a p have.1 at

    run-waited : (n : ℕ) (notes : List Note) (entries : List E) → Run n notes entries → Sits n entries → NotesHold Waited n notes → (j a : ℕ) (e : E) (p : Parcel) → slice_get entries j ≡ Some e → slice_get (log.freed e) a ≡ Some p → HasWaited log all (n + j) p
    run-waited n notes [] run sits holds j a e p at there = absurd (cc)
    run-waited n notes (d ∷ entries) run sits holds zero a e p at there =
        let same : d ≡ e = cc in
        let place : n + 0 ≡ n = omega arith in
        let here = ap (λ x. slice_get (log.freed x) a) same ∙ there in
        ⊎_elim
        (λ (none : log.freed d ≡ []). let nothing : slice_get (log.freed d) a ≡ None = ap (λ (ps : List Parcel). slice_get ps a) none in absurd (cc))
        (λ (some : (key : FragKey) × (log.part d ≡ First key) × HaveWaited Waited n key (log.freed d)).
        let waited = have-waited n some.0 (log.freed d) a p some.2 here in
        let r : HasWaited log all (n + 0) p = record {
          key = some.0;
          first = d;
          at = sits 0;
          frees = some.1;
          before = omega (arith, waited.0);
          later = waited.1.entry;
          there = waited.1.at;
          waited = waited.1.part;
          held = waited.1.waits;
        } in
        r)
        (run.1.free holds)
    run-waited n notes (d ∷ entries) run sits holds (suc j) a e p at there =
        let waits = λ (key : FragKey) (octets : List ℕ) (part : log.part d ≡ Later key octets) (held : IsTrue (log.waits d)). let place : n ≡ n + 0 = omega arith in let r : Waited n key octets = record { entry = d; at = ap (slice_get all) place ∙ sits 0; part = part; waits = held } in r in
        let rest = run-waited (suc n) run.0 entries run.2 (sits-next n d entries sits) (run.1.hold waits holds) j a e p at there in
        let same : suc n + j ≡ n + suc j = omega arith in
        let P : ℕ → Type 0 = λ m. HasWaited log all m p in
        subst P same rest

    not-now : (n k : ℕ) → ¬ (n ≡ k) → ◌≡◌ {A = ℕ} (cond (n == k) 1 0) 0
    not-now n k differ = by_test (n == k) refl
      where
        by_test : (b : Bool) → (n == k) ≡ b → ◌≡◌ {A = ℕ} (cond b 1 0) 0
        by_test true is = absurd (differ (eqb-true n k is))
        by_test false is = refl

    -- a place of the past is freed at most as often as it waits, and each place once more
    run-past : (k n : ℕ) (notes : List Note) (entries : List E) → Run n notes entries → k < n → times_freed log k entries ≤ times_held k notes
    run-past k n notes [] run past = omega arith
    run-past k n notes (e ∷ entries) run past =
        omega (arith, run.1.count k, not-now n k (λ same. absurd (omega arith)), run-past k (suc n) run.0 entries run.2 (omega arith))

    run-once : (k n : ℕ) (notes : List Note) (entries : List E) → Run n notes entries → times_freed log k entries ≤ times_held k notes + 1
    run-once k n notes [] run = omega arith
    run-once k n notes (e ∷ entries) run = by_place (n == k) refl (run-once k (suc n) run.0 entries run.2)
      where
        by_place : (b : Bool) → (n == k) ≡ b → times_freed log k entries ≤ times_held k run.0 + 1 → times k (log.freed e) + times_freed log k entries ≤ times_held k notes + 1
        by_place true is rest =
            let same = eqb-true n k is in
            let one : ◌≡◌ {A = ℕ} (cond (n == k) 1 0) 1 = ap (λ b. cond b 1 0) is in
            omega (arith, run.1.count k, one, run-past k (suc n) run.0 entries run.2 (omega arith))
        by_place false is rest =
            let none : ◌≡◌ {A = ℕ} (cond (n == k) 1 0) 0 = ap (λ b. cond b 1 0) is in
            omega (arith, run.1.count k, none, rest)

  -- both laws, of a whole run
  pub waited-all : (all : List E) → Run all 0 [] all → (j a : ℕ) (p : Parcel) → Frees log all j a p → HasWaited log all j p
  waited-all all run j a p frees =
      let start : Sits all 0 all = λ i. ap (slice_get all) (zero-add i) in
      let P : ℕ → Type 0 = λ m. HasWaited log all m p in
      subst P (zero-add j) (run-waited all 0 [] all run start tt j a frees.entry p frees.at frees.parcel)

  pub once-all : (all : List E) → Run all 0 [] all → (i a j b : ℕ) (p q : Parcel) → Frees log all i a p → Frees log all j b q → p.place ≡ q.place → (i ≡ j) × (a ≡ b)
  once-all all run i a j b p q one two same =
      freed-one all i a j b one.entry two.entry p q q.place one.at one.parcel two.at two.parcel same refl (omega (arith, run-once all q.place 0 [] all run))

-- later fragments free nothing
later-frees : (t : FragState) (now place : ℕ) (key : FragKey) (octets : List ℕ) → freed_by (frag t now place (LaterAsk key octets)).answer ≡ []
later-frees t now place key octets =
    let f : FragAsk = LaterAsk key octets in
    freed-first (frag t now place f).answer f (frag-kind t now place f) (λ parcels kind. kind)

-- an entry of a stripe
stripe-hold : (all : List StripeEntry) (n : ℕ) (s : FragState) (e : StripeEntry) → e.answer ≡ (stripe_step n s e).answer → ((key : FragKey) (octets : List ℕ) → part_in e.ask ≡ Later key octets → IsTrue (is_held e.answer) → Waited stripe_log all n key octets) → NotesHold (Waited stripe_log all) n s.notes → NotesHold (Waited stripe_log all) (suc n) (stripe_step n s e).after.notes
stripe-hold all n s e good waits holds =
    frag-hold (Waited stripe_log all) n s e.now e.ask (λ key octets is. waits key octets (ap part_in is.0) (ap is_held (good ∙ is.1))) holds

stripe-free : (all : List StripeEntry) (n : ℕ) (s : FragState) (now : ℕ) (ask : FragAsk) (answer : FragAnswer) → answer ≡ (frag s now n ask).answer → NotesHold (Waited stripe_log all) n s.notes → (freed_by answer ≡ []) ⊎ ((key : FragKey) × (part_in ask ≡ First key) × HaveWaited (Waited stripe_log all) n key (freed_by answer))
stripe-free all n s now (FirstAsk key ports) answer good holds =
    let W = Waited stripe_log all in
    let P : FragAnswer → Type 0 = λ a. HaveWaited W n key (freed_by a) in
    inr (key, refl, subst P (sym good) (frag-releases W n s now key ports holds))
stripe-free all n s now (LaterAsk key octets) answer good holds = inl (ap freed_by good ∙ later-frees s now n key octets)

stripe-moves : (all : List StripeEntry) (n : ℕ) (s : FragState) (e : StripeEntry) → e.answer ≡ (stripe_step n s e).answer → Moves stripe_log all n e s.notes (stripe_step n s e).after.notes
stripe-moves all n s e good = record {
  hold = stripe-hold all n s e good;
  free = stripe-free all n s e.now e.ask e.answer good;
  count = λ k. omega (arith, frag-counted k n s e.now e.ask, ap (λ a. times k (freed_by a)) good);
}

stripe-run : (all : List StripeEntry) (n : ℕ) (s : FragState) (entries : List StripeEntry) → AreStripeStepsFrom n s entries → Run stripe_log all n s.notes entries
stripe-run all n s [] good = tt
stripe-run all n s (e ∷ entries) good =
    ((stripe_step n s e).after.notes, stripe-moves all n s e good.0, stripe-run all (suc n) (stripe_step n s e).after entries good.1)

pub stripe-waited : (entries : List StripeEntry) (j a : ℕ) (p : Parcel) → IsGoodStripe entries → Frees stripe_log entries j a p → HasWaited stripe_log entries j p
stripe-waited entries j a p good frees = waited-all stripe_log entries (stripe-run entries 0 no_notes entries good) j a p frees

pub stripe-once : (entries : List StripeEntry) (i a j b : ℕ) (p q : Parcel) → IsGoodStripe entries → Frees stripe_log entries i a p → Frees stripe_log entries j b q → p.place ≡ q.place → (i ≡ j) × (a ≡ b)
stripe-once entries i a j b p q good = once-all stripe_log entries (stripe-run entries 0 no_notes entries good) i a j b p q

-- a later fragment of an ask
later-part : (part : Part) (ports : Ports) (f : FragAsk) (key : FragKey) (octets : List ℕ) → frag_ask_of part ports ≡ Some f → f ≡ LaterAsk key octets → part ≡ Later key octets
later-part Whole ports f key octets is later = absurd (cc)
later-part (First other) ports f key octets is later = absurd (cc)
later-part (Later other bytes) ports f key octets is later =
    let same : LaterAsk other bytes ≡ LaterAsk key octets = cc in
    let one : other ≡ key = cc in
    let two : bytes ≡ octets = cc in
    λ i. Later (one i) (two i)

-- an entry of an edge, by what its step does with the notes
module _ (all : List Entry) (clock n : ℕ) (notes : List Note) (e : Entry) (step : NatStep) where
  abbrev W : ℕ → FragKey → List ℕ → Type 0
  W = Waited edge_log all

  edge-free : (part : Part) (ports : Ports) (f : FragAsk) → frag_ask_of part ports ≡ Some f → NotesHold W n notes → FreesAtMost (freed_by (frag (record { clock = clock; notes = notes }) clock n f).answer) e.answer → (freed_of e.answer ≡ []) ⊎ ((key : FragKey) × (part ≡ First key) × HaveWaited W n key (freed_of e.answer))
  edge-free Whole ports f is holds frees = absurd (cc)
  edge-free (First key) ports f is holds frees =
      let t : FragState = record { clock = clock; notes = notes } in
      let same : f ≡ FirstAsk key ports = cc in
      let P : List Parcel → Type 0 = HaveWaited W n key in
      ⊎_elim
      (λ (none : freed_of e.answer ≡ []). inl none)
      (λ (some : freed_of e.answer ≡ freed_by (frag t clock n f).answer).
      inr (key, refl, subst P (sym (some ∙ ap (λ g. freed_by (frag t clock n g).answer) same)) (frag-releases W n t clock key ports holds)))
      frees
  edge-free (Later key octets) ports f is holds frees =
      let t : FragState = record { clock = clock; notes = notes } in
      let same : f ≡ LaterAsk key octets = cc in
      ⊎_elim
      (λ (none : freed_of e.answer ≡ []). inl none)
      (λ (some : freed_of e.answer ≡ freed_by (frag t clock n f).answer). inl (some ∙ ap (λ g. freed_by (frag t clock n g).answer) same ∙ later-frees t clock n key octets))
      frees

  frees-few : (k : ℕ) (parcels : List Parcel) → FreesAtMost parcels e.answer → times k (freed_of e.answer) ≤ times k parcels
  frees-few k parcels frees =
      ⊎_elim
      (λ (none : freed_of e.answer ≡ []). omega (arith, ap (times k) none))
      (λ (some : freed_of e.answer ≡ parcels). omega (arith, ap (times k) some))
      frees

  edge-moves : e.answer ≡ step.answer → Treats clock notes n (frag_ask_of (part_of e.ask) (ports_of e.ask)) step → Moves edge_log all n e notes step.after.notes
  edge-moves good treats =
      ⊎_elim
      (λ (still : (step.after.notes ≡ notes) × (freed_of step.answer ≡ [])).
      let none = ap freed_of good ∙ still.1 in
      let P : List Note → Type 0 = NotesHold W (suc n) in
      let r : Moves edge_log all n e notes step.after.notes = record {
        hold = λ waits holds. subst P (sym still.0) (notes-later W n notes holds);
        free = λ holds. inl none;
        count = λ k. omega (arith, ap (times_held k) still.0, ap (times k) none);
      } in
      r)
      (λ (moved : (f : FragAsk) × (frag_ask_of (part_of e.ask) (ports_of e.ask) ≡ Some f) × Takes clock notes n f step).
      let f = moved.0 in
      let is = moved.1 in
      let takes = moved.2 in
      let t : FragState = record { clock = clock; notes = notes } in
      let P : List Note → Type 0 = NotesHold W (suc n) in
      let A : Answer → Type 0 = FreesAtMost (freed_by (frag t clock n f).answer) in
      let frees = subst A (sym good) takes.freed in
      let r : Moves edge_log all n e notes step.after.notes = record {
        hold = λ waits holds. subst P (sym takes.notes_after) (frag-hold W n t clock f (λ key octets later. waits key octets (later-part (part_of e.ask) (ports_of e.ask) f key octets is later.0) (ap waits_by (good ∙ takes.held later.1))) holds);
        free = λ holds. edge-free (part_of e.ask) (ports_of e.ask) f is holds frees;
        count = λ k. omega (arith, frag-counted k n t clock f, ap (times_held k) takes.notes_after, frees-few k (freed_by (frag t clock n f).answer) frees);
      } in
      r)
      treats

edge-run : (all : List Entry) (prefix : Prefix6) (books : List Generation) (r : Reached) (entries : List Entry) → AreGoodFrom nat prefix books r entries → Run edge_log all r.place r.state.notes entries
edge-run all prefix books r [] good = tt
edge-run all prefix books r (e ∷ entries) good =
    let step = entry_step nat prefix books r e in
    let treats = nat-treats prefix r.state _ e.ask in
    (step.after.notes, edge-moves all _ r.place r.state.notes e step good.0.answer treats, edge-run all prefix books (further nat prefix books r e) entries good.1)

pub edge-waited : (start : EdgeStart) (books : List Generation) (entries : List Entry) (j a : ℕ) (p : Parcel) → IsGood nat start books entries → Frees edge_log entries j a p → HasWaited edge_log entries j p
edge-waited start books entries j a p good frees = waited-all edge_log entries (edge-run entries start.prefix books (outset start) entries good) j a p frees

pub edge-once : (start : EdgeStart) (books : List Generation) (entries : List Entry) (i a j b : ℕ) (p q : Parcel) → IsGood nat start books entries → Frees edge_log entries i a p → Frees edge_log entries j b q → p.place ≡ q.place → (i ≡ j) × (a ≡ b)
edge-once start books entries i a j b p q good = once-all edge_log entries (edge-run entries start.prefix books (outset start) entries good) i a j b p q
