pub mod Peers
pub mod More
pub mod SameViews
pub mod CoreSees
