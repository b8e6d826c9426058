use Rattle.ip4_packet.proofs.OptionGrammar.{read-exactly, none-exactly}
use Rattle.ip4_packet.proofs.laws.options_are_read_by_their_grammar.Goals as goal

pub returns-clause-routed : goal.returns-clause-routed
returns-clause-routed c = read-exactly

pub returns-clause-none : goal.returns-clause-none
returns-clause-none c = none-exactly
