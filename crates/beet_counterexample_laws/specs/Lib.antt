pub mod Needed
pub mod HasRun
pub mod TwoSealings
