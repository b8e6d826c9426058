-- The notes of hops name nodes, and no stripe without a place.
use Rattle.std.proofs.Common.{◌≡◌, sym, ap, ◌∙◌, ℕ, zero, suc, ◌≤◌, inl, inr, List, [], ◌∷◌, ◌++◌, map, length, Some, None, subst, arith}
use Rattle.std.specs.Prelude.{slice_get}
use Rattle.std.proofs.lemmas.Option.{same_Some, slice_get_within}
use Rattle.mapt_setup.specs.declared.setup.Setup.{Setup}
use Rattle.domain_core.specs.Form.{relay}
use Rattle.journeys.specs.declared.made.MadeHop.{MadeHop}
use Rattle.journeys.specs.declared.made.Taking.{Taking}
use Rattle.journeys.specs.declared.stand.Stand.{Stand}
use Rattle.journeys.specs.declared.stand.Stand.TheVariants.{Edge, Relay}
use Rattle.journeys.specs.Waiting.{Waiting}
use Rattle.journeys.specs.Walk.{Step as Made, kept_of}
use Rattle.journeys.specs.OneThread.{node_number}
use Rattle.journeys.specs.Run.{Histories, Step, IsStep, IsStepAt, IsOf, Walks, run_step, sent_by_step}
use Rattle.domain_run.specs.declared.machines.Machines.{Machines}
use Rattle.domain_run.specs.Machines.{histories_of, IsTakenRecord}
use Rattle.domain_run.specs.Items.{IsNoted, AreNoted}

-- each of them
pub noted_at : (hops : List MadeHop) (i : ℕ) (made : MadeHop) → AreNoted hops → slice_get hops i ≡ Some made → IsNoted made.note
noted_at [] i made noted there = absurd (cc)
noted_at (first ∷ hops) zero made noted there = subst (λ (m : MadeHop). IsNoted m.note) (same_Some first made there) noted.0
noted_at (first ∷ hops) (suc i) made noted there = noted_at hops i made noted.1 there

module _ (setup : Setup) (few : length setup.edges ≤ 256) where
  -- the node where a packet stands has a number among them
  node_within : (stand : Stand) (step : Step) (before after : Histories) → IsStepAt setup stand step before after → node_number stand ≤ relay
  node_within (Edge number way) step before after (line, there, is) = omega (arith, few, slice_get_within setup.edges number line there)
  node_within (Relay six) step before after is = omega arith

  -- a hop that names no place names no stripe
  no_stripe : (stand : Stand) (step : Step) (before after : Histories) → IsStepAt setup stand step before after → step.made.note.place ≡ None → step.made.note.stripe ≡ None
  no_stripe (Edge number way) step before after (line, there, inl (cause, dropped, leaves, sends)) none = leaves.0
  no_stripe (Edge number way) step before after (line, there, inr asked) none = asked.stripe
  no_stripe (Relay six) step before after (inl (nothing, leaves, sends)) none = leaves.0
  no_stripe (Relay six) step before after (inr told) none = absurd (cc (told.place, none))

  noted_one : (taking : Taking) (hop : ℕ) (w : Waiting) (step : Made) (before after : Histories) → IsOf taking hop w (run_step taking step).made
      → IsStep setup (run_step taking step) before after → IsNoted step.note
  noted_one taking hop w step before after of is =
      let same : node_number step.taken.stand ≡ step.note.node = ap (λ (x : Waiting). node_number x.stand) of.taken ∙ sym of.node in (
        subst (λ (n : ℕ). n ≤ relay) same (node_within step.taken.stand (run_step taking step) before after is),
        no_stripe step.taken.stand (run_step taking step) before after is,
      )

  noted_all : (taking : Taking) (hop : ℕ) (waiting : List Waiting) (steps : List Made) (before after : Histories)
      → Walks setup taking hop waiting (map (run_step taking) steps) before after → AreNoted (map kept_of steps)
  noted_all taking hop waiting [] before after walks = tt
  noted_all taking hop waiting (step ∷ steps) before after (w, others, mid, waits, of, is, walks) = (
    noted_one taking hop w step before mid of is,
    noted_all taking (suc hop) (others ++ sent_by_step setup (run_step taking step)) steps mid after walks,
  )

-- the hops that are kept of a record
pub are_noted : (setup : Setup) (taking : Taking) (waiting : List Waiting) (before after : Machines) (kept : List MadeHop) → length setup.edges ≤ 256
    → IsTakenRecord setup taking waiting before after kept → AreNoted kept
are_noted setup taking waiting before after kept few (steps, walks, is) =
    subst AreNoted (sym is) (noted_all setup few taking 0 waiting steps (histories_of before) (histories_of after) walks)
