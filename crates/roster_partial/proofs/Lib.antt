mod AddLaws
mod DaysLaws
mod RowCells
mod RowLaws
mod SomeStates
mod TransitionLaws
pub mod AllowedLaw
pub mod CountLaws
