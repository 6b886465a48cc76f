pub mod Shown
pub mod DayTables
pub mod Held
