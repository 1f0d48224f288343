pub mod Places
pub mod Transcribed
pub mod Examples
pub mod OneServer
pub mod TwoOfFive
