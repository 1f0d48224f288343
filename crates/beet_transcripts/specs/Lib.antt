pub mod DealtBooks
pub mod RunsOn
