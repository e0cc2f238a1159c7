-- Integers, tests, lists, sums and ranges: the words in which the pages above are written.
pub mod Whole
pub mod Tests
pub mod Lists
pub mod Sums
pub mod Hull
pub mod Least
pub mod Ends
