use Rattle.std.proofs.Common.{sym, ap, ◌∙◌}
use Rattle.std.specs.Prelude.{Some}
use Rattle.std.proofs.lemmas.Option.{slice_get-get_or}
use Rattle.journeys.specs.declared.made.MadeHop.{MadeHop}
use Rattle.domain_run.proofs.Noted.{noted_at}
use Rattle.domain_run.proofs.journey.journey_of.Goals as goal

pub written-requires : goal.written-requires
written-requires c =
    let hops = c.args.hops.now in
    let i = c.loop-made.made-index in
    noted_at hops i c.made-item.result c.requires
    (slice_get-get_or hops i c.made-item.result c.loop-made-test.true ∙ sym (ap (λ (m : MadeHop). Some m) c.made-item.is))
