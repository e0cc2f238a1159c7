-- What the checks ask of identifiers.
pub mod Checks
