pub mod Named
pub mod Nat44
pub mod Pieces
pub mod Transfer
