use Rattle.ip6_packet.proofs.CauseLemmas.{stays}
use Rattle.ip6_packet.proofs.head.Head6.read.Goals as goal

pub returns-clause-longer : goal.returns-clause-longer
returns-clause-longer c = λ more. stays c.decided.result c.args.octets.now more c.decided.ensures.found c.decided.ensures.refused
