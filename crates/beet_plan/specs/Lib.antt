pub mod Auction
pub mod Search
pub mod Runs
pub mod Kept
pub mod FivePlan
