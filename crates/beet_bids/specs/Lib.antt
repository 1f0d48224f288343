pub mod Grids
pub mod Curves
pub mod Books
pub mod Sums
pub mod Outcomes
pub mod AuctionFiles
pub mod Lines
pub mod BidFiles
