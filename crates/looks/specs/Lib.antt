-- What is read of a file that is only looked at.
pub mod Looked
