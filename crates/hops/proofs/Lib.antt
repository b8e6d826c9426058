pub mod Gained
pub mod Later
pub mod OneWay
pub mod Silent
pub mod Steps
