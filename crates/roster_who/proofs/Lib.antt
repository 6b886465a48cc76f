pub mod WayLemmas
pub mod SlotLemmas
pub mod RowLemmas
pub mod TakingLemmas
pub mod TakerLemmas
pub mod OrderLemmas
pub mod LawLemmas
pub mod HereLemmas
