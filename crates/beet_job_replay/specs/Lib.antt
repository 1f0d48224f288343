pub mod Begun
pub mod Playing
pub mod Replay
