-- What steps and calls on lists ask and promise.
pub mod Ready
