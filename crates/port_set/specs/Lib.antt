pub mod PortSet
pub mod Layout
