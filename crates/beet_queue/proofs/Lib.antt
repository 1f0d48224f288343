pub mod Members
pub mod Keeps
