mod Sent
pub mod RoundSteps
mod OneRound
mod RunSteps
mod Counts
mod PutsIn
