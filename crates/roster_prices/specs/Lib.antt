pub mod LowerBounds
pub mod Days
pub mod Nodes
pub mod Windows
pub mod Workspaces
pub mod Fading
