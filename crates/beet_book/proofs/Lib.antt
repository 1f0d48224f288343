pub mod Pairs
pub mod Items
pub mod Quantities
pub mod Sums
pub mod Deals
pub mod Each
pub mod Begins
pub mod NamedRows
pub mod Summed
pub mod Direct
pub mod FarmerLists
pub mod PointsAdded
pub mod Merged
mod Blocks
mod Parts
