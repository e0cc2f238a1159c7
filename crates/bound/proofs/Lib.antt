-- Why each room fits, and their sum.
pub mod Fits
pub mod Sums
