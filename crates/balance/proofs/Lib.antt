-- Why the tasks that the balance step passes over stay.
pub mod Stays
