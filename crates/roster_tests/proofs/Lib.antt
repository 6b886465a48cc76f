mod RowLemmas
mod TriedDays
