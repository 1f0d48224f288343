pub mod Gather
pub mod Opened
