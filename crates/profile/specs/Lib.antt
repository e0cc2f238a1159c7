-- What is asked and lent, the events as stretches of equal days, and what the stretches promise.
pub mod Lent
pub mod Sweep
pub mod Promise
