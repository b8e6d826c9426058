pub mod Gains
pub mod Hop
pub mod Reply
pub mod Sides
