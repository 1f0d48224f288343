pub mod SideFacts
pub mod BoxFacts
