pub mod Spent
pub mod Writing
