mod SeenCores
mod FewMapped
pub mod DifferenceForTwo
mod BookAnswers
mod JobSteps
