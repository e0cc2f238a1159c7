-- The laws of sets, of the language's counts and of refusals; sets worked out by hand.
pub mod Sets
pub mod Counting
pub mod SetCases
pub mod Refusals
