pub mod Verdicts
pub mod Audits
pub mod OneRuns
pub mod Parts
