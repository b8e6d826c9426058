pub mod CauseLemmas
pub mod OptionGrammar
pub mod OptionLemmas
pub mod WrittenLemmas
