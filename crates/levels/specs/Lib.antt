-- A resource's bands as changes of its limit.
pub mod Levels
