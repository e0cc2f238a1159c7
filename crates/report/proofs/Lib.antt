-- Laws of the report.
pub mod Told
pub mod Case9
