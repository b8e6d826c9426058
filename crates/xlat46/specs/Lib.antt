pub mod Fits
pub mod Head
pub mod Read
pub mod Whole
