use Rattle.std.proofs.Common.{◌+◌, sym}
use Rattle.std.proofs.Math.Numerals.{add-one}
use Rattle.octets.proofs.Cuts.{cut_at-place, cut_at-none, rest_is}
use Rattle.octets.proofs.numeral.cut.Goals as goal

pub returns-in_err-at : goal.returns-in_err-at
returns-in_err-at c = rw c.from_residual.ensures (sym (cut_at-none c.args.octet c.args.text.now c.in_err-at.ensures.none))

pub returns : goal.returns
returns c =
    rw (rest_is (c.in_ok-at.at + 1) c.args.text.now, add-one) (sym (cut_at-place c.args.octet c.in_ok-at.at c.args.text.now c.in_ok-at.ensures.within c.in_ok-at.ensures.found c.in_ok-at.ensures.first))
