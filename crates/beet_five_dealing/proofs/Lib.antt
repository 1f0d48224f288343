pub mod Lists
pub mod Shares
pub mod Zeros
pub mod FiveSums
