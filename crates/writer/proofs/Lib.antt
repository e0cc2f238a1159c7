-- Laws of the writer.
pub mod Resources
