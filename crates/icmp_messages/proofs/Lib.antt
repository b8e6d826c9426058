pub mod InnerLemmas
pub mod SumLemmas
