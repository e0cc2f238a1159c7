-- Laws of the step over the list.
pub mod Listed
pub mod Narrowing
pub mod Under
