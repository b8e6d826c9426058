use Rattle.std.proofs.Common.{◌≡◌, ◌<◌, ◌≤◌, length, take, get_or, ap, sym, subst, ◌∙◌, ℕ, arith}
use Rattle.std.specs.Char.{digit_value}
use Rattle.std.proofs.lemmas.Int.Digits.{digits_more, digits_value_more}
use Rattle.std.proofs.lemmas.List.{length-take-le}
use Rattle.octets.proofs.Numerals.{digits_small, more_small, digits_from-more}
use Rattle.octets.proofs.numeral.numeral.Goals as goal

pub overflow_mul-value : goal.overflow_mul-value
overflow_mul-value c =
    let i = c.loop-octet.octet-index in
    let short : length (take i c.args.text.now) ≤ 3 = omega (arith, length-take-le i c.args.text.now) in
    let small = digits_small c.args.radix (take i c.args.text.now) c.requires.least c.requires.most short c.loop-octet.invariant.digits in
    let value : c.loop-octet.value < 4096 = omega (arith, small, c.loop-octet.invariant.value) in
    omega (arith, more_small c.loop-octet.value c.args.radix value c.requires.most)

pub overflow_add-value : goal.overflow_add-value
overflow_add-value c =
    let i = c.loop-octet.octet-index in
    let short : length (take i c.args.text.now) ≤ 3 = omega (arith, length-take-le i c.args.text.now) in
    let small = digits_small c.args.radix (take i c.args.text.now) c.requires.least c.requires.most short c.loop-octet.invariant.digits in
    let value : c.loop-octet.value < 4096 = omega (arith, small, c.loop-octet.invariant.value) in
    omega (arith, more_small c.loop-octet.value c.args.radix value c.requires.most, c.in_ok-value.ensures.value.0, c.in_ok-value.ensures.value.1)

pub loop-octet-preserved : goal.loop-octet-preserved
loop-octet-preserved c =
    let i = c.loop-octet.octet-index in
    let digit : c.in_ok-value.field-0 ≡ digit_value (get_or c.args.text.now i 0) = c.in_ok-value.ensures.value.1 ∙ ap digit_value c.from.ensures in
    let lt : digit_value (get_or c.args.text.now i 0) < c.args.radix = subst (λ (x : ℕ). digit_value x < c.args.radix) c.from.ensures c.in_ok-value.ensures.value.0 in
    record {
      digits = digits_more c.args.radix c.args.text.now i c.loop-octet-test.true c.loop-octet.invariant.digits lt;
      value = rw (digit, c.loop-octet.invariant.value) (sym (digits_value_more c.args.radix c.args.text.now i c.loop-octet-test.true));
      rest = rw digit (sym (digits_from-more c.args.radix c.loop-octet.value i c.args.text.now c.loop-octet-test.true lt) ∙ c.loop-octet.invariant.rest);
    }
