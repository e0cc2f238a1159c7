-- Laws of keys, of keys laid one behind the other, and of what a resource's events are, add up to and reach.
pub mod Keys
pub mod Fits
pub mod Laid
pub mod Loops
pub mod Spans
pub mod Adds
pub mod Days
pub mod Covers
