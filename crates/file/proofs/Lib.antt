-- Laws of the reading calls.
pub mod Body
pub mod First
