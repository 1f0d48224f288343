pub mod NoteFacts
pub mod CountFacts
pub mod RunFacts
