pub mod CommonPoints
pub mod Heard
pub mod SharedPoints
pub mod KeptWords
pub mod ThirdFacts
pub mod FreeFacts
pub mod ThirdLaw
pub mod BookViewFacts
