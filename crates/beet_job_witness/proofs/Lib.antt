pub mod KeepingSteps
pub mod Witnessed
