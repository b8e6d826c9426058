pub mod Behind4
pub mod Behind6
pub mod Packet4
pub mod Packet6
pub mod Asked
pub mod Found
pub mod OneOf
