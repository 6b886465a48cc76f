pub mod BoundReports
pub mod AnswerLemmas
pub mod BestLemmas
pub mod BoundLemmas
pub mod AskedLemmas
pub mod WhoLemmas
