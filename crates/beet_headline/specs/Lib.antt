pub mod Statements
pub mod Envelopes
pub mod FiveStatements
