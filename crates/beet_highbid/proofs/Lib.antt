pub mod SeenBids
pub mod Pairs
pub mod SaleRows
pub mod CutWords
mod WinningBids
mod SaleMaps
