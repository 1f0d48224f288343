pub mod FileFacts
pub mod ReadFacts
pub mod WriteFacts
pub mod Walks
