pub mod Weights
pub mod Quadratics
