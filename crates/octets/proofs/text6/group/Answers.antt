use Rattle.std.proofs.Common.{sym, ◌∙◌}
use Rattle.octets.proofs.Numerals.{numeral_fits, kept}
use Rattle.octets.proofs.text6.group.Goals as goal

pub returns : goal.returns
returns c =
    let fits = numeral_fits c.in_ok-numeral.field-0 c.args.text.now (sym c.in_ok-numeral.ensures) in
    c.ok.ensures.value ∙ kept c.try_from.result c.in_ok-numeral.field-0 c.try_from.ensures fits ∙ c.in_ok-numeral.ensures
