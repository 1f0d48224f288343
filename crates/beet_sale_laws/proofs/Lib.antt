mod Reading
mod Saying
mod Jobs
mod Examples
