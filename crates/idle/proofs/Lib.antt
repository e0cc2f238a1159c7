-- Which steps would change nothing, and what a pass and settling may leave out.
pub mod Lively
pub mod Mask
pub mod Resting
pub mod Passing
pub mod Settles
