-- How far the checks have come, that identifiers that rise repeat none, and what the first places tell of a plan.
pub mod Checks
pub mod Rising
pub mod Held
