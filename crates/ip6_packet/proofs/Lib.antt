pub mod CauseLemmas
pub mod ChainGrammar
pub mod ChainLemmas
pub mod EmbeddedLemmas
pub mod WrittenLemmas
