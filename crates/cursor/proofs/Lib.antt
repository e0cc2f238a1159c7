-- Laws of what stands at a place of the bytes.
pub mod Due
