pub mod SeedFacts
