pub mod Kinds
pub mod Sums
pub mod Irreparable
pub mod Minimums
