pub mod Causes
pub mod Embedded
pub mod Fragment
pub mod Grammar
pub mod OptionList
pub mod Options
pub mod Written
