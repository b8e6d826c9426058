pub mod Stripes
pub mod Books
pub mod Entries
