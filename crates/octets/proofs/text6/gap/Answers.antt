use Rattle.std.proofs.Common.{◌≡◌, ◌+◌, ◌<◌, ℕ, suc, length, get_or, sym, arith}
use Rattle.std.proofs.Math.Numerals.{add-one}
use Rattle.octets.proofs.Cuts.{rest_is}
use Rattle.octets.proofs.Gaps.{NoGapBefore, gap_at-place, gap_at-none}
use Rattle.octets.proofs.text6.gap.Goals as goal

pub returns-in_err-at : goal.returns-in_err-at
returns-in_err-at c =
    let text = c.args.text.now in
    let no_gap = λ (k : ℕ) (lt : suc k < length text) (p : get_or text k 0 ≡ 58) (q : get_or text (suc k) 0 ≡ 58). c.in_err-at.ensures.none k (omega arith) p (rw (add-one k) q) in
    rw c.from_residual.ensures (sym (gap_at-none text no_gap))

pub returns : goal.returns
returns c =
    let text = c.args.text.now in
    let at = c.in_ok-at.at in
    let within : at + 1 < length text = c.in_ok-at.ensures.within in
    let long : suc at < length text = omega (arith, within) in
    let two : at + 2 ≡ suc (suc at) = omega arith in
    let second : get_or text (suc at) 0 ≡ 58 = rw (← add-one at) c.in_ok-at.ensures.found.1 in
    let before : NoGapBefore at text = λ k lt p q. c.in_ok-at.ensures.first k lt p (rw (add-one k) q) in
    rw (rest_is (at + 2) text, two) (sym (gap_at-place at text long c.in_ok-at.ensures.found.0 second before))
