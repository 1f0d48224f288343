pub mod Secrets
pub mod Mapped
pub mod Refused
pub mod Steps
pub mod Premise
pub mod Agreement
