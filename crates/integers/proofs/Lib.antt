-- The laws: linear arithmetic, tests, sums, loops over lists, ranges.
pub mod Tests
pub mod Z
pub mod Lists
pub mod Sums
pub mod Loops
pub mod Hull
pub mod Least
