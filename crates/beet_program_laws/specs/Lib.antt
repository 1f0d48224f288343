pub mod Outcomes
pub mod Commands
pub mod Refusals
pub mod Accepted
pub mod Again
