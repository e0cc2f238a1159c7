-- For how many tasks the calls on plan files lend arrays, and what they promise.
pub mod Lists
