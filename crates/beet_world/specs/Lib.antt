pub mod Schedules
pub mod Marks
pub mod Missing
pub mod Worlds
pub mod Happens
