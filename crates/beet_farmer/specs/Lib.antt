pub mod Sealing
pub mod Envelopes
pub mod Lists
