pub mod Sizes
pub mod Rules
pub mod Adding
pub mod Splits
pub mod Trial
