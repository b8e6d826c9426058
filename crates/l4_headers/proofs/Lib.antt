pub mod Behind
pub mod Given
pub mod Laws
pub mod RightSums
pub mod Words
