pub mod Options
pub mod Raw
pub mod Items
pub mod Accepted
pub mod Faults
pub mod Reading
pub mod Digits
pub mod Text
