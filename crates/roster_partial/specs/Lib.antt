pub mod Counts
pub mod SameCounts
pub mod Rates
pub mod Rows
pub mod Searches
pub mod Allowed
