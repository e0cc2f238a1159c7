-- What the stretches tell a step, which tasks they can touch, and what is left of what a step is lent.
pub mod Told
pub mod Least
pub mod Kept
