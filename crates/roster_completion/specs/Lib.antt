pub mod Bounds
pub mod CompletionBounds
pub mod Later
pub mod Least
pub mod Lines
pub mod Once
