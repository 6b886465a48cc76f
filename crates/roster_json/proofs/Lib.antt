pub mod Writing
pub mod Shapes
pub mod ReportLines
pub mod BreachLines
