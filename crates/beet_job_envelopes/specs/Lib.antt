pub mod SourceWords
pub mod Seal
pub mod Open
pub mod SealedBooks
