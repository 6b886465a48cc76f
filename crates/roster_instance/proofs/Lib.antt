pub mod RosterFacts
pub mod Sections
pub mod TableLemmas
pub mod NameLemmas
mod LineLemmas
pub mod SizeLemmas
pub mod TableSteps
pub mod WeekTableLemmas
pub mod HistoryLemmas
pub mod PutRows
pub mod RequestLemmas
pub mod DayLemmas
pub mod FlagLemmas
pub mod ScenarioLemmas
mod CaseLemmas
mod FitLemmas
mod SmallLemmas
mod PastLemmas
