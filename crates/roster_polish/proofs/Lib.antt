pub mod KickRows
pub mod Steps
pub mod Keeping
pub mod Memory
pub mod FadeRows
pub mod KickLogs
pub mod Showing
pub mod Passes
pub mod PlanRows
mod Fading
mod Cheapest
mod Anew
