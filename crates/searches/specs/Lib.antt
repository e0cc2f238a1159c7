-- What a search over stretches gives.
pub mod Searches
