pub mod Asked
pub mod Ends
pub mod Hop
pub mod Taken
