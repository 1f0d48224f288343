pub mod FiveEndings
pub mod WorldEndings
