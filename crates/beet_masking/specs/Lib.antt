pub mod Blocks
pub mod Masks
pub mod Compared
pub mod Accepting
