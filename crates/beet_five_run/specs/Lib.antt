pub mod FiveRuns
pub mod FiveOutcomes
