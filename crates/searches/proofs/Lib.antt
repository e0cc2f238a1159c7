-- Why each search over stretches finds what it says.
pub mod Parts
pub mod Order
pub mod FirstFree
pub mod LastFree
pub mod FreeSpan
pub mod Durations
pub mod NeededDays
pub mod LeastSlack
