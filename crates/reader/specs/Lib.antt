-- What the reader's contracts and its theorem cite.
pub mod Taking
pub mod Walking
