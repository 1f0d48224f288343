pub mod Setups
pub mod Endings
pub mod AnyPoints
pub mod WorldEnds
