-- What a plan that is ready tells of its places, and that it stays ready; the places that a pass leaves out; what settling answers.
pub mod Ready
pub mod Skips
pub mod Within
