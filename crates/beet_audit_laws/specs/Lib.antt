pub mod InUse
