pub mod Results
pub mod SaleRuns
pub mod Standings
