pub mod LotSteps
