pub mod Drawn
pub mod Spending
