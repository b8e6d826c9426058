use Rattle.octets.proofs.OneValue.{one_addr4, one_addr6, one_prefix4, one_prefix6}
use Rattle.octets.proofs.laws.a_text_spells_one_value.Goals as goal

pub returns-clause-addr4 : goal.returns-clause-addr4
returns-clause-addr4 c = one_addr4

pub returns-clause-addr6 : goal.returns-clause-addr6
returns-clause-addr6 c = one_addr6

pub returns-clause-prefix4 : goal.returns-clause-prefix4
returns-clause-prefix4 c = one_prefix4

pub returns-clause-prefix6 : goal.returns-clause-prefix6
returns-clause-prefix6 c = one_prefix6
