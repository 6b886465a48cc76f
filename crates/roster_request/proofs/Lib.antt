pub mod CommandLineLemmas
pub mod WalkLemmas
pub mod OptionLemmas
pub mod NumberLemmas
pub mod NurseLemmas
