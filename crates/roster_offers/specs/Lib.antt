pub mod Cheapest
pub mod ByStates
pub mod Offers
pub mod Lists
pub mod Listed
pub mod Workspaces
pub mod Rises
pub mod Finds
