use Rattle.std.specs.Prelude.{◌≡◌, take, map, IsTrue}
use Rattle.std.specs.List.{list_all}
use Rattle.edge_core.specs.Shown.{StripeShown}
use Rattle.domain_core.specs.declared.history.StripeHistory.{StripeHistory}
use Rattle.domain_core.specs.Form.{is_stripe_written}
use Rattle.journeys.specs.OneThread.{stripe_note}
use Rattle.domain_run.proofs.told.stripe_histories_of.Given as goal

-- the histories of the stripes so far
abbrev pub invariant-loop-stripe : goal.invariant-loop-stripe
invariant-loop-stripe l =
    (map (λ (h : StripeHistory). h.notes) l.histories ≡ map (map stripe_note) (map (λ (s : StripeShown). s.history) (take l.stripe-index l.stripes)))
    × IsTrue (list_all is_stripe_written l.histories)
