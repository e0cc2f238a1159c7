-- A held resource's days as one change.
pub mod Held
