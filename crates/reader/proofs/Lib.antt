-- Laws of the reader.
pub mod Handing
pub mod Unique
pub mod Walking
