pub mod WordPlaces
pub mod MovedWords
pub mod DealerFacts
pub mod EachMapped
pub mod WorldFacts
