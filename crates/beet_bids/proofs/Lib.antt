pub mod GridFacts
pub mod CurveFacts
pub mod LineFacts
pub mod HeldFacts
pub mod BookSums
pub mod AuctionRows
