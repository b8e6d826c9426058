pub mod Capture
pub mod Form
pub mod Grammar
pub mod Written
