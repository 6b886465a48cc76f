pub mod Limits
pub mod Weekdays
pub mod Token
pub mod SmallNumbers
pub mod Canonical
