pub mod Icmp46
pub mod Icmp64
pub mod Inner
pub mod Inside
pub mod Moved
pub mod Mtu
pub mod Sums
