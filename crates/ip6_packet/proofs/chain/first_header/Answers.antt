use Rattle.std.proofs.Common.{arith}
use Rattle.ip6_packet.proofs.ChainLemmas.{missing, stands}
use Rattle.ip6_packet.proofs.chain.first_header.Goals as goal

pub returns-then-octets-lt-EXTENSION_UNIT : goal.returns-then-octets-lt-EXTENSION_UNIT
returns-then-octets-lt-EXTENSION_UNIT c = missing c.args.octets.now (omega arith)

pub returns-then-octets-len : goal.returns-then-octets-len
returns-then-octets-len c = missing c.args.octets.now (omega arith)

pub returns : goal.returns
returns c = stands c.args.octets.now _ (omega arith) (omega arith)
