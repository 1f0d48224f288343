pub mod OutcomeTexts
pub mod Outcomes
pub mod Runs
