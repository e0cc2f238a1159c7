-- What the calls on plan files answer and leave.
pub mod Files
pub mod Outcomes
