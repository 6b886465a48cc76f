pub mod Offers
pub mod Searches
pub mod Recalled
