-- What a step answers, and a call on a plan as it is for its sense.
pub mod Calls
