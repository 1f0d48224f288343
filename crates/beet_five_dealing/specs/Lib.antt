pub mod FiveWords
pub mod FiveInputs
pub mod FiveTotals
