pub mod ScheduleRows
pub mod MarkFacts
pub mod Happening
pub mod GivenFacts
pub mod Founding
pub mod Delivered
