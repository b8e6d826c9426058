-- The steps of a run one after the other, and the packets that they took: each record's are those of its walk.
use Rattle.std.proofs.Common.{◌≡◌, refl, sym, ap, ◌∙◌, ℕ, zero, suc, ◌+◌, ◌<◌, ◌≤◌, Bool, true, false, List, [], ◌∷◌, ◌++◌, map, Option, None, subst, arith}
use Rattle.std.specs.Prelude.{slice_get, filter, ◌==◌}
use Rattle.std.proofs.lemmas.Bool.{eq-eqb, ne_eqb}
use Rattle.std.proofs.lemmas.List.{append-nil}
use Rattle.std.proofs.lemmas.List.Elements.{filter-append}
use Rattle.mapt_setup.specs.declared.setup.Setup.{Setup}
use Rattle.mapt_setup.specs.declared.script.ScriptItem.{ScriptItem}
use Rattle.mapt_setup.specs.declared.script.ScriptItem.TheVariants.{Rec, Move}
use Rattle.mapt_setup.specs.Script.{is_record}
use Rattle.journeys.specs.Waiting.{Waiting, start_of}
use Rattle.journeys.specs.Answers.{and_then}
use Rattle.journeys.specs.Derived.{Packet, packets_of, start_in}
use Rattle.journeys.specs.declared.made.Taking.{Taking}
use Rattle.journeys.specs.Run.{Histories, Step, IsStep, sent_by_step, Walks, first_waiting, ItemRun, ran, live, still, Runs}
use Rattle.journeys.proofs.RunLists.{Every, every_both, every_so, filter_all, filter_none}

-- all steps of a run, in their order
abbrev pub steps_of : List ItemRun → List Step
steps_of [] = []
steps_of (ran rec steps ∷ runs) = steps ++ steps_of runs
steps_of (live number ∷ runs) = steps_of runs
steps_of (still number ∷ runs) = steps_of runs

-- the packet that a step took, and all of them
abbrev pub packet_of : Step → Packet
packet_of s = record { rec = s.made.rec; taken = s.made.taken }

abbrev pub packets_in : List Step → List Packet
packets_in steps = map packet_of steps

-- the steps of a record among some
abbrev pub is_with : ℕ → Step → Bool
is_with rec s = s.made.rec == rec

abbrev pub steps_with : ℕ → List Step → List Step
steps_with rec steps = filter (is_with rec) steps

abbrev pub taken_by : List Step → List Waiting
taken_by steps = map (λ (s : Step). s.made.taken) steps

-- the packets of a record are those that its steps took
pub packets_with : (rec : ℕ) (steps : List Step) → packets_of rec (packets_in steps) ≡ taken_by (steps_with rec steps)
packets_with rec [] = refl
packets_with rec (s ∷ steps) = by (s.made.rec == rec) refl (packets_with rec steps)
  where
    by : (b : Bool) → (s.made.rec == rec) ≡ b → packets_of rec (packets_in steps) ≡ taken_by (steps_with rec steps)
        → packets_of rec (packets_in (s ∷ steps)) ≡ taken_by (steps_with rec (s ∷ steps))
    by true is rest = rw is (ap (λ ws. s.made.taken ∷ ws) rest)
    by false is rest = rw is rest

-- one step among others, with those of its record
pub with_itself : (xs : List Step) (s : Step) (ys : List Step) → steps_with s.made.rec (xs ++ s ∷ ys) ≡ steps_with s.made.rec xs ++ s ∷ steps_with s.made.rec ys
with_itself xs s ys =
    filter-append (is_with s.made.rec) xs (s ∷ ys) ∙ ap (λ (ss : List Step). steps_with s.made.rec xs ++ ss) itself
  where
    itself : steps_with s.made.rec (s ∷ ys) ≡ s ∷ steps_with s.made.rec ys
    itself = rw (eq-eqb s.made.rec s.made.rec refl) refl

-- ---- one step after the other

abbrev pub Chain : Setup → List Step → Histories → Histories → Type 0
Chain setup [] before after = after ≡ before
Chain setup (s ∷ steps) before after = (mid : Histories) × IsStep setup s before mid × Chain setup steps mid after

pub chain_both : (setup : Setup) (xs ys : List Step) (before mid after : Histories) → Chain setup xs before mid → Chain setup ys mid after → Chain setup (xs ++ ys) before after
chain_both setup [] ys before mid after first second = subst (λ (h : Histories). Chain setup ys h after) first second
chain_both setup (x ∷ xs) ys before mid after (between, is, first) second = (between, is, chain_both setup xs ys between mid after first second)

-- where one stands behind others
pub chain_at : (setup : Setup) (xs : List Step) (s : Step) (ys : List Step) (before after : Histories) → Chain setup (xs ++ s ∷ ys) before after
    → (from : Histories) × (to : Histories) × Chain setup xs before from × IsStep setup s from to × Chain setup ys to after
chain_at setup [] s ys before after (to, is, chain) = (before, to, refl, is, chain)
chain_at setup (x ∷ xs) s ys before after (between, is, chain) =
    let rest = chain_at setup xs s ys between after chain in
    (rest.0, rest.1, (between, is, rest.2), rest.3, rest.4)

walk_chain : (setup : Setup) (taking : Taking) (hop : ℕ) (waiting : List Waiting) (steps : List Step) (before after : Histories)
    → Walks setup taking hop waiting steps before after → Chain setup steps before after
walk_chain setup taking hop waiting [] before after walks = walks.1
walk_chain setup taking hop waiting (s ∷ steps) before after (w, others, mid, waits, of_it, is, walks) =
    (mid, is, walk_chain setup taking (suc hop) (others ++ sent_by_step setup s) steps mid after walks)

pub run_chain : (setup : Setup) (rec changes : ℕ) (script : List ScriptItem) (runs : List ItemRun) (before after : Histories)
    → Runs setup rec changes script runs before after → Chain setup (steps_of runs) before after
run_chain setup rec changes [] runs before after (none, is) =
    subst (λ (r : List ItemRun). Chain setup (steps_of r) before after) (sym none) is
run_chain setup rec changes (Rec side time bytes ∷ script) runs before after (steps, others, mid, walks, rest, is) =
    subst (λ (r : List ItemRun). Chain setup (steps_of r) before after) (sym is)
    (chain_both setup steps (steps_of others) before mid after
    (walk_chain setup (record { rec = rec; time = time; seen = changes }) 0 (first_waiting (start_of setup side bytes)) steps before mid walks)
    (run_chain setup (suc rec) changes script others mid after rest))
run_chain setup rec changes (Move number true ∷ script) runs before after (others, rest, is) =
    subst (λ (r : List ItemRun). Chain setup (steps_of r) before after) (sym is) (run_chain setup rec (suc changes) script others before after rest)
run_chain setup rec changes (Move number false ∷ script) runs before after (others, rest, is) =
    subst (λ (r : List ItemRun). Chain setup (steps_of r) before after) (sym is) (run_chain setup rec (suc changes) script others before after rest)

-- ---- the steps of a record

pub walk_records : (setup : Setup) (taking : Taking) (hop : ℕ) (waiting : List Waiting) (steps : List Step) (before after : Histories)
    → Walks setup taking hop waiting steps before after → Every (λ (s : Step). s.made.rec ≡ taking.rec) steps
walk_records setup taking hop waiting [] before after walks = tt
walk_records setup taking hop waiting (s ∷ steps) before after (w, others, mid, waits, of_it, is, walks) =
    (of_it.rec, walk_records setup taking (suc hop) (others ++ sent_by_step setup s) steps mid after walks)

-- records have numbers from the first on
pub run_records : (setup : Setup) (rec changes : ℕ) (script : List ScriptItem) (runs : List ItemRun) (before after : Histories)
    → Runs setup rec changes script runs before after → Every (λ (s : Step). rec ≤ s.made.rec) (steps_of runs)
run_records setup rec changes [] runs before after (none, is) =
    subst (λ (r : List ItemRun). Every (λ (s : Step). rec ≤ s.made.rec) (steps_of r)) (sym none) tt
run_records setup rec changes (Rec side time bytes ∷ script) runs before after (steps, others, mid, walks, rest, is) =
    subst (λ (r : List ItemRun). Every (λ (s : Step). rec ≤ s.made.rec) (steps_of r)) (sym is)
    (every_both (λ (s : Step). rec ≤ s.made.rec) steps (steps_of others)
    (every_so (λ (s : Step). s.made.rec ≡ rec) (λ (s : Step). rec ≤ s.made.rec) (λ s same. omega arith) steps
    (walk_records setup (record { rec = rec; time = time; seen = changes }) 0 (first_waiting (start_of setup side bytes)) steps before mid walks))
    (every_so (λ (s : Step). suc rec ≤ s.made.rec) (λ (s : Step). rec ≤ s.made.rec) (λ s low. omega arith) (steps_of others)
    (run_records setup (suc rec) changes script others mid after rest)))
run_records setup rec changes (Move number true ∷ script) runs before after (others, rest, is) =
    subst (λ (r : List ItemRun). Every (λ (s : Step). rec ≤ s.made.rec) (steps_of r)) (sym is) (run_records setup rec (suc changes) script others before after rest)
run_records setup rec changes (Move number false ∷ script) runs before after (others, rest, is) =
    subst (λ (r : List ItemRun). Every (λ (s : Step). rec ≤ s.made.rec) (steps_of r)) (sym is) (run_records setup rec (suc changes) script others before after rest)

-- The steps of a record are a walk from where it starts. Where there is no such record, they are none.
pub record IsWalked (setup : Setup) (first : Option Waiting) (steps : List Step) : Type 0 where
  pub taking : Taking
  pub before : Histories
  pub after : Histories
  pub walks : Walks setup taking 0 (first_waiting first) steps before after

-- those of the first record, and of another
pub first_with : (setup : Setup) (taking : Taking) (waiting : List Waiting) (steps others : List Step) (before after : Histories)
    → Walks setup taking 0 waiting steps before after → Every (λ (s : Step). suc taking.rec ≤ s.made.rec) others → steps_with taking.rec (steps ++ others) ≡ steps
first_with setup taking waiting steps others before after walks low =
    filter-append (is_with taking.rec) steps others
    ∙ ap (λ (ss : List Step). ss ++ steps_with taking.rec others)
    (filter_all (is_with taking.rec) steps
    (every_so (λ (s : Step). s.made.rec ≡ taking.rec) (λ (s : Step). is_with taking.rec s ≡ true) (λ s same. eq-eqb s.made.rec taking.rec same) steps
    (walk_records setup taking 0 waiting steps before after walks)))
    ∙ ap (λ (ss : List Step). steps ++ ss)
    (filter_none (is_with taking.rec) others
    (every_so (λ (s : Step). suc taking.rec ≤ s.made.rec) (λ (s : Step). is_with taking.rec s ≡ false)
    (λ s above. ne_eqb s.made.rec taking.rec (λ same. absurd (omega arith))) others low))
    ∙ append-nil steps

pub later_with : (setup : Setup) (taking : Taking) (waiting : List Waiting) (steps others : List Step) (before after : Histories) (rec : ℕ)
    → Walks setup taking 0 waiting steps before after → taking.rec < rec → steps_with rec (steps ++ others) ≡ steps_with rec others
later_with setup taking waiting steps others before after rec walks above =
    filter-append (is_with rec) steps others
    ∙ ap (λ (ss : List Step). ss ++ steps_with rec others)
    (filter_none (is_with rec) steps
    (every_so (λ (s : Step). s.made.rec ≡ taking.rec) (λ (s : Step). is_with rec s ≡ false)
    (λ s same. ne_eqb s.made.rec rec (λ equal. absurd (omega arith))) steps
    (walk_records setup taking 0 waiting steps before after walks)))

pub run_walked : (setup : Setup) (rec changes : ℕ) (script : List ScriptItem) (runs : List ItemRun) (before after : Histories)
    → Runs setup rec changes script runs before after → (n : ℕ)
    → IsWalked setup (and_then (slice_get (filter is_record script) n) (start_in setup)) (steps_with (rec + n) (steps_of runs))
run_walked setup rec changes [] runs before after (none, is) n =
    subst (λ (r : List ItemRun). IsWalked setup None (steps_with (rec + n) (steps_of r))) (sym none)
    (record { taking = record { rec = rec + n; time = 0; seen = 0 }; before = before; after = before; walks = (refl, refl) })
run_walked setup rec changes (Rec side time bytes ∷ script) runs before after (steps, others, mid, walks, rest, is) zero =
    let taking : Taking = record { rec = rec; time = time; seen = changes } in
    let number : rec ≡ rec + 0 = omega arith in
    let first : Option Waiting = start_of setup side bytes in
    subst (λ (r : List ItemRun). IsWalked setup first (steps_with (rec + 0) (steps_of r))) (sym is)
    (subst (λ (m : ℕ). IsWalked setup first (steps_with m (steps ++ steps_of others))) number
    (subst (λ (ss : List Step). IsWalked setup first ss)
    (sym (first_with setup taking (first_waiting first) steps (steps_of others) before mid walks (run_records setup (suc rec) changes script others mid after rest)))
    (record { taking = taking; before = before; after = mid; walks = walks })))
run_walked setup rec changes (Rec side time bytes ∷ script) runs before after (steps, others, mid, walks, rest, is) (suc n) =
    let taking : Taking = record { rec = rec; time = time; seen = changes } in
    let first : Option Waiting = and_then (slice_get (filter is_record script) n) (start_in setup) in
    let number : suc rec + n ≡ rec + suc n = omega arith in
    subst (λ (r : List ItemRun). IsWalked setup first (steps_with (rec + suc n) (steps_of r))) (sym is)
    (subst (λ (ss : List Step). IsWalked setup first ss)
    (sym (later_with setup taking (first_waiting (start_of setup side bytes)) steps (steps_of others) before mid (rec + suc n) walks (omega arith)))
    (subst (λ (m : ℕ). IsWalked setup first (steps_with m (steps_of others))) number
    (run_walked setup (suc rec) changes script others mid after rest n)))
run_walked setup rec changes (Move number true ∷ script) runs before after (others, rest, is) n =
    subst (λ (r : List ItemRun). IsWalked setup (and_then (slice_get (filter is_record script) n) (start_in setup)) (steps_with (rec + n) (steps_of r))) (sym is)
    (run_walked setup rec (suc changes) script others before after rest n)
run_walked setup rec changes (Move number false ∷ script) runs before after (others, rest, is) n =
    subst (λ (r : List ItemRun). IsWalked setup (and_then (slice_get (filter is_record script) n) (start_in setup)) (steps_with (rec + n) (steps_of r))) (sym is)
    (run_walked setup rec (suc changes) script others before after rest n)
