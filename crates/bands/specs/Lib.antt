-- The test that one band of a list passes.
pub mod Checks
