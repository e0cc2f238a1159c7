-- Laws of calls on plan files.
pub mod Files
