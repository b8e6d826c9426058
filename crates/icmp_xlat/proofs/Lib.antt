pub mod ReadAgain
pub mod RightSums
pub mod Rows
