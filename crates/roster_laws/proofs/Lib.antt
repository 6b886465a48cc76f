pub mod Below
pub mod OneRow
pub mod Keeps
pub mod Shortfall
pub mod SameRows
pub mod Fives
pub mod Steps
pub mod Rounds
pub mod Runs
pub mod Descents
pub mod AllRows
pub mod Allowed
pub mod GreatestLemmas
pub mod Kept
pub mod InOrder
pub mod Frozen
mod NobodyAbsent
mod NothingFixed
pub mod KeptRoster
