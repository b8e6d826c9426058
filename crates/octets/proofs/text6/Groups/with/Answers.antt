use Rattle.std.proofs.Common.{◌+◌, arith}
use Rattle.octets.proofs.Sizes.{more_fits, eight_fit}
use Rattle.octets.proofs.text6.Groups.with.Goals as goal

pub overflow_mul-result : goal.overflow_mul-result
overflow_mul-result c =
    let fits = more_fits c.args.self.value c.args.group c.args.self.count c.args.self.fits (omega arith) in
    omega (arith, eight_fit _ (c.args.self.count + 1) (omega arith) fits)

pub overflow_add-result-2 : goal.overflow_add-result-2
overflow_add-result-2 c =
    let fits = more_fits c.args.self.value c.args.group c.args.self.count c.args.self.fits (omega arith) in
    omega (arith, eight_fit _ (c.args.self.count + 1) (omega arith) fits)
