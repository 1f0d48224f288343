pub mod FiveStarts
pub mod FiveEnding
pub mod BookStarts
