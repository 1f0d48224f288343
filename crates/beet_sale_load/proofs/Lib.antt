pub mod ReadLists
pub mod Starting
