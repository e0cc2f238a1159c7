-- What stands at a place of the bytes.
pub mod Handed
