pub mod Accepted
pub mod Passage46
pub mod Passage64
