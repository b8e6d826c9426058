pub mod Copied
pub mod State
pub mod Frag
pub mod Listed
pub mod Place
pub mod Bounds
pub mod Kind
pub mod Fragment
