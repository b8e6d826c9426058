mod Trials
pub mod Counting
pub mod Runs
pub mod Places
pub mod Ranks
pub mod Same
