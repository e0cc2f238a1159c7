-- The nouns of the page, as the definitions read them.
pub mod Days
pub mod Powers
pub mod Sets
pub mod Tasks
pub mod Refusals
