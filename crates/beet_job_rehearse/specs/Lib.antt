pub mod Standings
pub mod StandingTexts
pub mod Rehearsing
pub mod Rehearse
