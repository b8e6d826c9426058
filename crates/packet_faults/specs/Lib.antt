pub mod Cut
pub mod Error
