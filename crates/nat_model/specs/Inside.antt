-- The code's own values as definitions see them: a machine, a wish and remote addresses by their fields.
use Rattle.std.specs.Prelude.{◌≤◌, ◌<◌, ◌^◌}
use Rattle.nat_model.specs.declared.claim.Wish.{Wish as RawWish}
use Rattle.nat_model.specs.declared.machine.Machine.TheInside.{Inside}
use Rattle.nat_model.specs.declared.remote.Remote.{Remote as RawRemote}
use Rattle.nat_model.specs.Claim.{Wish}
use Rattle.nat_model.specs.Remote.{Remote}
use Rattle.nat_model.specs.State.{NatMachine, NatState, generation_in, state_at}
use Rattle.nat_model.specs.Sound.{IsSound}

abbrev pub wish_in : RawWish → Wish
wish_in w = record { proto = w.proto; near = w.near; port = w.port }

abbrev pub remote_in : RawRemote → Remote
remote_in r = record { from = r.from; peer = r.peer }

-- the state: the rules, the time, the bindings and the notes
abbrev pub state_in : Inside → NatState
state_in m = state_at (generation_in m.book) m.clock m.bindings.items m.notes.notes

abbrev pub machine_in : Inside → NatMachine
machine_in m = record { prefix = m.prefix; state = state_in m; steps = m.steps }

-- its bindings are sound, its time is below 2^63, and its notes saw no later one
pub record IsMachine (m : Inside) : Type 0 where
  pub sound : IsSound m.prefix (state_in m)
  pub early : m.clock < 2 ^ 63
  pub notes : m.notes.clock ≤ m.clock
