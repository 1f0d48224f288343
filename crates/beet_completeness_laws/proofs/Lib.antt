pub mod Leading
pub mod Jobs
pub mod Audits
pub mod Rehearsals
