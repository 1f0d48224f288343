pub mod Lots
pub mod Pairs
pub mod Complete
