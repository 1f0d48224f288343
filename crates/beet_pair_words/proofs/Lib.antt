pub mod Made
pub mod Naming
