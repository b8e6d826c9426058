pub mod Read
pub mod RightSums
