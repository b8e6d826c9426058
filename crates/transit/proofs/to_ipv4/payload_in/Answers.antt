use Rattle.ip6_packet.specs.Grammar.{payload_of6}
use Rattle.xlat64.proofs.Read.{offset_fits}
use Rattle.transit.proofs.to_ipv4.payload_in.Goals as goal

pub returns-clause-offset : goal.returns-clause-offset
returns-clause-offset c =
    let head = c.args.packet.now.head in
    offset_fits head (payload_of6 head c.args.octets.now) c.args.octets.now c.requires.1.is c.requires.1.header
