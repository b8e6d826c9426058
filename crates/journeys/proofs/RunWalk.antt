-- The walk of a record, whoever makes its hops, is that of a run where each hop is a step of one.
use Rattle.std.proofs.Common.{refl, sym, ap, ℕ, suc, List, [], ◌∷◌, ◌++◌, map}
use Rattle.mapt_setup.specs.declared.setup.Setup.{Setup}
use Rattle.journeys.specs.declared.made.Taking.{Taking}
use Rattle.journeys.specs.Waiting.{Waiting}
use Rattle.journeys.specs.Walk.{Step, Making, sent_by_step, Leads}
use Rattle.journeys.specs.Run.{Histories, IsStep, Walks, run_step}

module _ {S : Type 0} (Makes : Making S) (known : S → Histories) (setup : Setup) (taking : Taking)
    (is : (s : Step) (before after : S) → Makes s before after → IsStep setup (run_step taking s) (known before) (known after))
  where
    pub walk_is_run : (hop : ℕ) (waiting : List Waiting) (steps : List Step) (before after : S) → Leads Makes setup taking hop waiting steps [] before after
        → Walks setup taking hop waiting (map (run_step taking) steps) (known before) (known after)
    walk_is_run hop waiting [] before after walks = (sym walks.0, ap known walks.1)
    walk_is_run hop waiting (s ∷ steps) before after (w, others, mid, waits, of_it, makes, walks) = (
      w,
      others,
      known mid,
      waits,
      record { rec = refl; hop_is = of_it.hop_is; time = refl; taken = of_it.taken; node = of_it.node; seen = of_it.seen },
      is s before mid makes,
      walk_is_run (suc hop) (others ++ sent_by_step setup s) steps mid after walks,
    )
