pub mod Drawn
pub mod EnoughFacts
pub mod ReadRuns
pub mod DealersThere
pub mod AllWords
pub mod MappedSoFar
mod OnlyMemory
