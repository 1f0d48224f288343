pub mod Laws
pub mod Closure
pub mod AtOne
pub mod Lawful
pub mod Ends
pub mod Arithmetic
