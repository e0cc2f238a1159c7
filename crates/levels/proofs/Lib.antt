-- Laws of the bands' keys: what they add up to, and what one turn of the loop over the bands keeps.
pub mod Adds
pub mod Loops
