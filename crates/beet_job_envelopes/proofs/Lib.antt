pub mod TextAfter
pub mod SealSteps
pub mod SealedBooks
pub mod SealedFiles
