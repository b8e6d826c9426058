pub mod Embedding
pub mod Address
pub mod Shape
pub mod Rule
