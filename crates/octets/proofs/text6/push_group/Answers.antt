use Rattle.std.proofs.Common.{arith}
use Rattle.octets.proofs.Hex.{hex-one, hex-two, hex-three, hex-four}
use Rattle.octets.proofs.text6.push_group.Goals as goal
use Rattle.octets.proofs.text6.push_group.Goals.{then-group-lt16, else-group-lt16+then-group-lt256, else-group-lt16+else-group-lt256+then-group-lt4096, else-group-lt16+else-group-lt256+else-group-lt4096}

pub returns : goal.returns
returns c =
    let g = c.args.group in
    elim c.if-group-lt16.branch [
      | then-group-lt16 w ↦ rw (hex-one g w.if-group-lt16.true) (rw (w.leading_zeros-is, c.hex_digit-4.ensures) at c.extend.ensures.ok)
      | else-group-lt16+then-group-lt256 w ↦ rw (hex-two g w.if-group-lt256.true w.if-group-lt16.false) (rw (w.leading_zeros-is, c.hex_digit-4.ensures, c.hex_digit-3.ensures) at c.extend.ensures.ok)
      | else-group-lt16+else-group-lt256+then-group-lt4096 w ↦ rw (hex-three g w.if-group-lt4096.true w.if-group-lt256.false) (rw (w.leading_zeros-is, c.hex_digit-4.ensures, c.hex_digit-3.ensures, c.hex_digit-2.ensures) at c.extend.ensures.ok)
      | else-group-lt16+else-group-lt256+else-group-lt4096 w ↦ rw (hex-four g (omega arith) w.if-group-lt4096.false) (rw (w.leading_zeros-is, c.hex_digit-4.ensures, c.hex_digit-3.ensures, c.hex_digit-2.ensures, c.hex_digit.ensures) at c.extend.ensures.ok)
    ]
