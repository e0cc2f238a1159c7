-- What follows of the calls on plan files.
pub mod Answers
pub mod FileTheorems
pub mod GoesOn
pub mod FilePasses
pub mod Numbers
