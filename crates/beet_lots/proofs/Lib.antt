pub mod LotFacts
pub mod LotLaws
