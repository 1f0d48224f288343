pub mod SessionFiles
pub mod SeedFiles
pub mod LotSchedules
