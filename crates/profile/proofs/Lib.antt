-- Laws of the sweep, and of what the stretches tell.
pub mod Loops
pub mod Calm
pub mod Spread
pub mod Turns
pub mod Promise
