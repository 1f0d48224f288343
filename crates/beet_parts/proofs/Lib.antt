mod Halves
pub mod Ranges
