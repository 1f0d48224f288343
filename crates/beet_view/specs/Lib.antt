pub mod Views
pub mod RunViews
pub mod Transcripts
pub mod BookViews
pub mod Listings
