-- Laws of the days of a stretch, and of what a day's slack says of a task.
pub mod View
pub mod Asks
