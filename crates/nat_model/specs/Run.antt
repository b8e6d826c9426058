-- Asks one after another.
use Rattle.std.specs.Prelude.{ℕ, suc, List, [], ◌∷◌}
use Rattle.octets.specs.declared.prefix.Prefix6.{Prefix6}
use Rattle.nat_model.specs.declared.ask.Ask.{Ask}
use Rattle.nat_model.specs.State.{Generation, NatState, NatStep}
use Rattle.nat_model.specs.Machine.{nat}

-- what a machine is asked, at a time, by someone who sees these rules
pub record Asked : Type 0 where
  pub seen : Generation
  pub now : ℕ
  pub ask : Ask

-- the step of an ask at its place
abbrev pub step_of : Prefix6 → ℕ → NatState → Asked → NatStep
step_of prefix place s a = nat prefix s (record { seen = a.seen; now = a.now; place = place }) a.ask

-- the state after these asks, the first of which is made at this place
abbrev pub state_after : Prefix6 → ℕ → NatState → List Asked → NatState
state_after prefix place s [] = s
state_after prefix place s (a ∷ asks) = state_after prefix (suc place) (step_of prefix place s a).after asks
