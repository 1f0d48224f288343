pub mod ResultFacts
pub mod Held
pub mod Standings
