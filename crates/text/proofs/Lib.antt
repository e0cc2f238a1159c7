-- Laws of the text.
pub mod Texts
pub mod Examples
