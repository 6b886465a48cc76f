pub mod WeekLemmas
pub mod PieceLemmas
pub mod NameLemmas
