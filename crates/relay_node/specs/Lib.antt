pub mod Asked
pub mod Relay
pub mod FromAccess
pub mod FromIpv4
pub mod Hop
pub mod Taken
