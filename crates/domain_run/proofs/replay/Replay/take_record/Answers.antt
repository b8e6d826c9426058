use Rattle.std.proofs.Common.{refl, sym, ap, ◌∙◌, List, map, subst}
use Rattle.journeys.specs.declared.made.MadeHop.{MadeHop}
use Rattle.journeys.specs.Waiting.{start_of}
use Rattle.journeys.specs.Run.{first_waiting}
use Rattle.domain_core.specs.declared.journey.Journey.{Journey}
use Rattle.domain_run.specs.Items.{AreNoted}
use Rattle.journeys.specs.declared.made.Taking.{Taking}
use Rattle.domain_run.proofs.Noted.{are_noted}
use Rattle.domain_run.proofs.Replaying.{record_taken}
use Rattle.domain_run.proofs.replay.Replay.take_record.Goals as goal

pub journey_of-requires : goal.journey_of-requires
journey_of-requires c =
    let setup = c.args.setup.now in
    let taking : Taking = record { rec = c.args.self.now.records; time = c.args.time; seen = c.args.self.now.changes } in
    subst AreNoted (sym c.as_slice.ensures)
    (are_noted setup taking (first_waiting (start_of setup c.args.side c.args.octets.now)) c.args.self.now.machines c.take_record.new.self c.in_ok-hops.hops
    c.requires.valid.edges.few c.in_ok-hops.ensures.hops)

pub returns : goal.returns
returns c =
    let before = c.args.self.now in
    let journey_with : List MadeHop → Journey = λ hops. record { rec = before.records; worker = 0; hops = map (λ (m : MadeHop). m.note) hops } in
    record_taken c.args.setup.now c.args.side c.args.time c.args.octets.now c.in_ok-hops.hops c.in_ok-journey.journey before
    (record { machines = c.take_record.new.self; items = c.push.new.self; kept = c.push-2.new.self; records = c.in_ok-records.records; changes = before.changes })
    c.in_ok-hops.ensures.hops (c.in_ok-journey.ensures.told ∙ ap journey_with c.as_slice.ensures) c.in_ok-journey.ensures.form c.in_ok-push.ensures.items c.in_ok-push-2.ensures.items
    c.in_ok-records.ensures refl c.in_ok-hops.ensures.ready.machines_are
