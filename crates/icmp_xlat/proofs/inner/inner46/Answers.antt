use Rattle.std.proofs.Common.{arith}
use Rattle.xlat46.proofs.Placed.{placed}
use Rattle.icmp_xlat.proofs.inner.inner46.Goals as goal

pub write_front-requires : goal.write_front-requires
write_front-requires c =
    let inner = c.args.inner.now in
    let ends = c.args.ends.now in
    rw c.inner_head46.ensures.value (placed inner.head ends.inner_src ends.inner_dst (omega arith) (omega (arith, c.inner_head46.ensures.fits, c.requires.least)))
