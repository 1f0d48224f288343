pub mod Leads
pub mod Batches
pub mod Finishes
