pub mod Enough
pub mod Servers
pub mod ListsMapped
