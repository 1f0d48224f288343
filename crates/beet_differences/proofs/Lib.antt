pub mod Told
pub mod Comparing
