-- What an edge shows, and what a stripe of the relay shows, and what holds of it.
use Rattle.std.specs.Prelude.{◌≡◌, List}
use Rattle.frag_table.specs.State.{FragState}
use Rattle.nat_model.specs.declared.entry.Entry.{Entry}
use Rattle.nat_model.specs.declared.stripe.StripeEntry.{StripeEntry}
use Rattle.nat_model.specs.History.{EdgeStart, outset, replay_from, replay, IsGood}
use Rattle.nat_model.specs.Machine.{nat}
use Rattle.nat_model.specs.Sound.{IsSound}
use Rattle.nat_model.specs.State.{Generation, NatState}
use Rattle.nat_model.specs.Stripe.{stripe_replay, IsGoodStripe}
use Rattle.edge_core.specs.Used.{AreUsed}

-- where an edge began, the rules of each generation that it used, the first ones among them, its rules, time, bindings and
-- notes, and its history
pub record EdgeShown : Type 0 where
  pub start : EdgeStart
  pub books : List Generation
  pub state : NatState
  pub history : List Entry

-- The history is good over where the edge began and the rules that it used, and replaying it gives the state. Its bindings are
-- sound. The state's generation is the greatest of those that were used, and the one that the last entry used.
pub record KeepsEdge (e : EdgeShown) : Type 0 where
  pub good : IsGood nat e.start e.books e.history
  pub replays : e.state ≡ replay nat e.start e.books e.history
  pub sound : IsSound e.start.prefix e.state
  pub are_used : AreUsed e.books e.state.book.number
  pub latest : e.state.book.number ≡ (replay_from nat e.start.prefix e.books (outset e.start) e.history).used

-- the notes of a stripe, with the greatest time that was seen, and its history
pub record StripeShown : Type 0 where
  pub table : FragState
  pub history : List StripeEntry

-- the history is good, and replaying it gives the notes
pub record KeepsStripe (s : StripeShown) : Type 0 where
  pub good : IsGoodStripe s.history
  pub replays : s.table ≡ stripe_replay s.history
