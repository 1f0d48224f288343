pub mod Sharings
pub mod Runs
pub mod Polynomials
pub mod Schemes
