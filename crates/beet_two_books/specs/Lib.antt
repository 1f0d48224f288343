pub mod Agreement
pub mod Losses
pub mod Disagreement
