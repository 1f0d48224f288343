pub mod Lined
pub mod LinesLaw
pub mod Walk
pub mod Rounds
pub mod RunSteps
pub mod SameRuns
