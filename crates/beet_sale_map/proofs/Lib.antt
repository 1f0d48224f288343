pub mod OpenAlike
pub mod SaleWorlds
pub mod ForServers
pub mod Pairing
pub mod Refused
