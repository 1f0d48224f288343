pub mod Notices
pub mod Noting
