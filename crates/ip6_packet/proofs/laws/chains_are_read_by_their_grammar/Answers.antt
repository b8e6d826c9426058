use Rattle.ip6_packet.proofs.ChainGrammar.{chain-exactly, none-exactly}
use Rattle.ip6_packet.proofs.laws.chains_are_read_by_their_grammar.Goals as goal

pub returns-clause-chain : goal.returns-clause-chain
returns-clause-chain c = chain-exactly

pub returns-clause-none : goal.returns-clause-none
returns-clause-none c = none-exactly
