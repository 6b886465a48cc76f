pub mod Slots
pub mod Tables
pub mod ColumnPool
