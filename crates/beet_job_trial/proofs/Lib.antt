pub mod Curves
pub mod Bidders
pub mod Ending
