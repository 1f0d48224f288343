pub mod Turned
pub mod MaskFacts
pub mod MasksBack
pub mod Small
pub mod TurnedWords
pub mod MasksThere
