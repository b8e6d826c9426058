pub mod Accepted4
pub mod Accepted6
pub mod Both
pub mod Form
pub mod OneWay
pub mod Rests
pub mod Room
