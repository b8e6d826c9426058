use Rattle.octets.proofs.Runs6.{written, only_written}
use Rattle.octets.proofs.laws.an_ipv6_text_is_shortened_by_the_rules.Goals as goal

pub returns-clause-written : goal.returns-clause-written
returns-clause-written c = written

pub returns-clause-only : goal.returns-clause-only
returns-clause-only c = only_written
