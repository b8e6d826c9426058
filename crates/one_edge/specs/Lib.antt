pub mod Crossed
pub mod Edge
pub mod Served
