-- What the bound on passes asks of the tasks.
pub mod Entered
