pub mod Json
pub mod Breaches
pub mod Reports
