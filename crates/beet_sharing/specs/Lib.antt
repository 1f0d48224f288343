pub mod Runs
pub mod Lines
pub mod Rounds
pub mod Examples
pub mod Steps
pub mod Seen
