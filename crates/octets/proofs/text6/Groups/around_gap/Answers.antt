use Rattle.std.proofs.Common.{◌<◌, ◌+◌, ◌-◌, ◌*◌, ◌^◌, refl, arith}
use Rattle.std.proofs.Math.Nat.{mod-eq_of_lt}
use Rattle.std.proofs.lemmas.Bool.{le-ltb}
use Rattle.octets.proofs.Sizes.{gap_fits}
use Rattle.octets.proofs.text6.Groups.around_gap.Goals as goal

pub overflow_add-result : goal.overflow_add-result
overflow_add-result c =
    let fits = gap_fits c.args.self.count c.args.self.value c.args.right.count c.args.right.value c.args.self.fits c.args.right.fits c.if-self-right-ge-GROUPS.false in
    let one : c.args.self.value * 2 ^ (16 * (8 - c.args.self.count)) < 2 ^ 128 = omega (arith, fits) in
    rw (mod-eq_of_lt one) (omega (arith, fits))

pub returns : goal.returns
returns c =
    let fits = gap_fits c.args.self.count c.args.self.value c.args.right.count c.args.right.value c.args.self.fits c.args.right.fits c.if-self-right-ge-GROUPS.false in
    let one : c.args.self.value * 2 ^ (16 * (8 - c.args.self.count)) < 2 ^ 128 = omega (arith, fits) in
    rw (mod-eq_of_lt one, le-ltb 7 (c.args.self.count + c.args.right.count) (omega arith)) refl
