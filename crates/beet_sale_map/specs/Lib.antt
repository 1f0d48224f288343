pub mod Bids
pub mod Losses
pub mod Worlds
pub mod Enough
pub mod InputLines
pub mod MappedSales
pub mod Disagreement
pub mod KeptBids
