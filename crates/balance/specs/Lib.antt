-- Which tasks the balance step passes over.
pub mod Exact
