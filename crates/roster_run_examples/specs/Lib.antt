pub mod Mini
pub mod Tight
