pub mod Calls
pub mod Tables
pub mod Refusals
pub mod Leavings
pub mod Dues
pub mod Held
pub mod Readings
pub mod Recorded
