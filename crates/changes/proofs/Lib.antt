-- Laws of the changes that a step tells, and of a step task by task.
pub mod Same
pub mod Changes
pub mod Walk
