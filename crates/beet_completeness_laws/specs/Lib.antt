pub mod WithoutFault
pub mod Kinds
pub mod Complete
