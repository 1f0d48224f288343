pub mod EachRow
mod LotsTaken
pub mod LotsTelling
