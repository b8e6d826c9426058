pub mod Machines
pub mod Start
pub mod Items
