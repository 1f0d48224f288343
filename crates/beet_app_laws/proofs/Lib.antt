pub mod Faults
pub mod Answers
pub mod JobAnswers
pub mod Left
pub mod Led
pub mod Telling
pub mod Reading
pub mod Recorded
