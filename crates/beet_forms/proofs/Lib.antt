pub mod NameFacts
pub mod Records
pub mod ReaderFacts
pub mod NumberFacts
pub mod RoundTrip
pub mod RowFacts
