pub mod Starting
pub mod Reading
pub mod Kept
pub mod Seeing
pub mod Refusals
pub mod Answering
pub mod Ending
