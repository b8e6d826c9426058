use Rattle.std.proofs.Common.{ap, Option}
use Rattle.std.specs.Option.{option_map}
use Rattle.journeys.specs.declared.stand.Stand.{Stand}
use Rattle.journeys.specs.Waiting.{at_stand, start_of}
use Rattle.domain_run.proofs.Records.{taken}
use Rattle.domain_run.proofs.machines.Machines.take_record.Goals as goal

pub returns-clause-hops : goal.returns-clause-hops
returns-clause-hops c =
    let octets = c.args.octets.now in
    taken c.args.setup.now c.args.taking.now (option_map (at_stand octets) c.first_stand-first.result) (start_of c.args.setup.now c.args.side octets)
    c.args.self.now c.walk.new.maker c.walk.result (ap (λ (s : Option Stand). option_map (at_stand octets) s) c.first_stand-first.ensures.first) c.walk.ensures.journey
