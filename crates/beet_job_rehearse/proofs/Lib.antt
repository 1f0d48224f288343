pub mod ServerStands
pub mod WorldPlays
pub mod JobEnds
pub mod LineParts
pub mod AllEnded
