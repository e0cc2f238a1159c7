-- Laws of the held span: its days, what its keys add up to, and where they lie.
pub mod Spans
pub mod Adds
pub mod Room
