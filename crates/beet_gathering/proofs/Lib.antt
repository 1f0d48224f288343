pub mod Gathered
pub mod GatherSteps
pub mod PointRuns
