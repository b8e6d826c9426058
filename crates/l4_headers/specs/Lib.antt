pub mod PseudoHeader
pub mod Readdressed
pub mod Segment
pub mod Transport
