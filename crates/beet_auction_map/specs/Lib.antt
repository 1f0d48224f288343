pub mod MappedBidders
pub mod Enough
pub mod Disagreement
pub mod InputLines
pub mod MappedWords
pub mod ViewsWith
pub mod Moments
pub mod Worlds
