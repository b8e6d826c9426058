pub mod Used
pub mod Shown
pub mod Edge
pub mod Stripe
