-- Laws of the two calls: that a contract admits one result, and what writing refuses.
pub mod Unique
pub mod Writing
