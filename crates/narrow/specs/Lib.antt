-- What is asked of a task, which stretches it can't meet, and what it is once every rule has been applied.
pub mod Ready
pub mod Window
