pub mod Coalitions
pub mod Premise
pub mod Pairs
pub mod Words
pub mod Lists
pub mod Moved
pub mod Watchers
pub mod Examples
