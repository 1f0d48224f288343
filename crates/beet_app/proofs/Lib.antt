pub mod Running
pub mod Showing
mod Tables
pub mod TwoServers
