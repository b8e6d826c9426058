pub mod Emitted
pub mod OneHop
pub mod Refused
