pub mod FiveStarting
