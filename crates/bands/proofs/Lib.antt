-- How far the check has come, and that the first 64 bands and the number of all tell what it answers.
pub mod Checks
pub mod Firsts
