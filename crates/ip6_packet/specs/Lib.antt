pub mod Causes
pub mod Chain
pub mod Destination
pub mod Embedded
pub mod Fragment
pub mod Grammar
pub mod Headers
pub mod Written
