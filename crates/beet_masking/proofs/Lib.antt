pub mod Counts
pub mod Places
pub mod AlikeMasks
pub mod BlockLaws
pub mod Words
pub mod Rounds
pub mod Claims
pub mod Standing
