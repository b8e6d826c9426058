pub mod Ends
pub mod Inside
pub mod Segment
pub mod Embedded
pub mod Sums
pub mod Turned
