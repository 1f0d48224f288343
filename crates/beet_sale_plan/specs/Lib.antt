pub mod Selections
pub mod Sale
pub mod Outcome
pub mod Kept
pub mod SaleRuns
