pub mod Fives
pub mod Acting
pub mod Moves
pub mod Turning
