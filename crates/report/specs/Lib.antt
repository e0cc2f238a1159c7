-- What is printed for a plan file, and for that of case 9.
pub mod Report
pub mod Case9
