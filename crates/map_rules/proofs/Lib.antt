mod Trials
pub mod Parts
pub mod Embedded
pub mod MapAddress
pub mod Rules
pub mod Sources
pub mod Same
