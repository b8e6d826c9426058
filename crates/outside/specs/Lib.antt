pub mod Files
pub mod InMemory
pub mod Seen
pub mod Text
