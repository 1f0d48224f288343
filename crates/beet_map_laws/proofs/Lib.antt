pub mod AllBut
pub mod Reaching
pub mod Images
