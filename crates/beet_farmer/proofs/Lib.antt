pub mod EnvelopeAgain
pub mod SealedAgain
mod EntryParts
