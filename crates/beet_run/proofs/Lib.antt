pub mod ShareLines
pub mod Starting
pub mod Ending
pub mod BookRuns
pub mod StatusFacts
