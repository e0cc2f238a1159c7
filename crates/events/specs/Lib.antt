-- An event as a key, keys laid one behind the other, the events of one resource's tasks, and the extremes of those tasks.
pub mod Keys
pub mod Laid
pub mod Events
pub mod Extremes
