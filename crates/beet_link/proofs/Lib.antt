pub mod StreamFacts
