-- A plan by its sense, as the steps work on it.
pub mod Senses
