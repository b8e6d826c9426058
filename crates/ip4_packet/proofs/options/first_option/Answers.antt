use Rattle.std.proofs.Common.{arith}
use Rattle.ip4_packet.proofs.OptionLemmas.{unsized, too_short, too_long, stands}
use Rattle.ip4_packet.proofs.options.first_option.Goals as goal
use Rattle.ip4_packet.proofs.options.first_option.Goals.{then-len-least_length-via-then-len-least_length, then-len-least_length-via-else-len-least_length+then-octets-len}

pub returns-then-octets-le-OPTION_LEN_AT : goal.returns-then-octets-le-OPTION_LEN_AT
returns-then-octets-le-OPTION_LEN_AT c = unsized c.args.octets.now c.if-octets-le-OPTION_LEN_AT.true c.requires

pub returns-then-len-least_length : goal.returns-then-len-least_length
returns-then-len-least_length c =
    elim c.then-len-least_length.branch [
      | then-len-least_length-via-then-len-least_length w ↦ too_short c.args.octets.now (omega arith) c.requires (omega arith)
      | then-len-least_length-via-else-len-least_length+then-octets-len w ↦ too_long c.args.octets.now (omega arith) c.requires (omega arith) (omega arith)
    ]

pub returns : goal.returns
returns c = stands c.args.octets.now c.from-len.result c.from-len.ensures (omega arith) c.requires (omega arith) c.if-octets-len.false
