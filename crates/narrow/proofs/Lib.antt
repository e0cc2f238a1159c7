-- What follows for one task from the page and from what a profile tells.
pub mod ToldDays
pub mod Ranges
pub mod Heights
pub mod Sets
pub mod NarrowedTask
pub mod Window
pub mod Close
