-- The walk of a record by machines is the run of one worker.
use Rattle.std.proofs.Common.{◌≡◌, refl, ap, ◌∙◌, List, Option, Some, None, subst}
use Rattle.std.specs.Prelude.{Result, Ok, Err, IfOk}
use Rattle.std.specs.Option.{option_to_list}
use Rattle.mapt_setup.specs.declared.setup.Setup.{Setup}
use Rattle.journeys.specs.declared.made.MadeHop.{MadeHop}
use Rattle.journeys.specs.declared.made.Taking.{Taking}
use Rattle.journeys.specs.Waiting.{Waiting}
use Rattle.journeys.specs.Walk.{IsJourney}
use Rattle.journeys.specs.Run.{first_waiting}
use Rattle.journeys.proofs.RunWalk.{walk_is_run}
use Rattle.domain_run.specs.declared.machines.Machines.{Machines}
use Rattle.domain_run.specs.Machines.{histories_of, MakesOne, IsTakenRecord}

-- what waits first
first_is : (o : Option Waiting) → option_to_list o ≡ first_waiting o
first_is None = refl
first_is (Some w) = refl

pub taken : {E : Type 0} (setup : Setup) (taking : Taking) (start other : Option Waiting) (before after : Machines) (result : Result (List MadeHop) E) → start ≡ other
    → IfOk result (IsJourney (MakesOne setup taking) setup taking (option_to_list start) before after)
    → IfOk result (IsTakenRecord setup taking (first_waiting other) before after)
taken setup taking start other before after (Ok kept) same (steps, walks, is) =
    subst (λ (ws : List Waiting). IsTakenRecord setup taking ws before after kept) (ap option_to_list same ∙ first_is other)
    (steps, walk_is_run (MakesOne setup taking) histories_of setup taking (λ s one next made. made.0) 0 (option_to_list start) steps before after walks, is)
taken setup taking start other before after (Err e) same none = none
