pub mod DifferenceFacts
pub mod SecondWords
mod JobSteps
mod BookAnswers
