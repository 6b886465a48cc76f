pub mod Who
pub mod Ways
pub mod Offers
