mod Reading
mod Standings
mod Saying
mod PairReading
mod Pairing
mod Jobs
