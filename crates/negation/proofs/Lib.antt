-- A call on the plan as the steps work on it, and why it can be negated.
pub mod Ready
pub mod Senses
