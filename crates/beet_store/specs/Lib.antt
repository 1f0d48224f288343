pub mod Causes
pub mod Files
pub mod Desks
pub mod Histories
pub mod Recording
pub mod Memory
pub mod Host
