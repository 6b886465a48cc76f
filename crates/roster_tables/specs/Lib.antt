pub mod Tables
pub mod Counts
pub mod Halves
pub mod Search
pub mod Days
pub mod OpenDays
pub mod Strips
