pub mod NetworkFacts
mod Adding
pub mod Counting
mod Listing
pub mod Undelivered
pub mod ThreeServers
pub mod TwoRounds
