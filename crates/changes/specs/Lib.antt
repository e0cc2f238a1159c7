-- What a step says of the tasks that it changed.
pub mod Changes
