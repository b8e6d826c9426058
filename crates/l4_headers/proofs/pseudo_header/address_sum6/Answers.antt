use Rattle.std.proofs.Common.{ap, ◌∙◌}
use Rattle.inet_sum.specs.Sum.{words}
use Rattle.l4_headers.proofs.pseudo_header.address_sum6.Goals as goal

pub returns-clause-value : goal.returns-clause-value
returns-clause-value c = c.sum.ensures.value ∙ ap words c.to_be_bytes.ensures
