pub mod FiveEnds
pub mod FiveCores
pub mod Ends
pub mod WorldEnds
pub mod ThreeTell
