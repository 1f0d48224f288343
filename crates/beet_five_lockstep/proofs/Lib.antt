pub mod OneRound
pub mod WholeRun
