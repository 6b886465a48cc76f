pub mod NodeCapacity
pub mod Branching
pub mod BoundLogs
pub mod Rounds
pub mod BoundRuns
pub mod PooledUses
pub mod Branchings
