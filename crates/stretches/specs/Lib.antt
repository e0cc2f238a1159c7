-- A resource's days as stretches of equal days, and what such a list tells of one task.
pub mod View
pub mod Asks
pub mod Tells
