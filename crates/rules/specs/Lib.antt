-- The page of rules, in the page's order: a plan's frame, what an allowed plan is, the steps, pass and settling, and what each call answers.
pub mod Frame
pub mod Allowed
pub mod Listing
pub mod Balance
pub mod Step
pub mod Settle
pub mod Moves
pub mod Fixed
pub mod Calls
pub mod Again
pub mod Keeps
pub mod Rises
pub mod Negation
pub mod Cases
pub mod BandCases
pub mod HeldCases
pub mod PassCases
