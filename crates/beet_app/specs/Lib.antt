pub mod Jobs
pub mod Commands
pub mod Showing
pub mod Doing
