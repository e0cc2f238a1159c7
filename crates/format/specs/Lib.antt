-- The plan file: numbers in bytes, the table of records, what is written, what is read.
pub mod Numbers
pub mod Format
pub mod Writing
pub mod Reading
