pub mod Extension
pub mod Inner
pub mod Message
pub mod Rows
pub mod Table
