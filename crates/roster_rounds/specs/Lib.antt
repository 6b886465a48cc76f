pub mod RunLogs
pub mod PutIn
pub mod Spaces
