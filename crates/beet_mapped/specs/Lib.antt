pub mod Dealers
pub mod Trades
