pub mod DayTableLemmas
mod RecountLemmas
mod PushLemmas
mod AllowedLemmas
mod HeldLemmas
