-- The planning program's text, and how it is put.
pub mod Text
pub mod Puts
