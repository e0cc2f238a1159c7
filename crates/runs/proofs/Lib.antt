-- Laws of the run of bands.
pub mod Going
pub mod Rooms
