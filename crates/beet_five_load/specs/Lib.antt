pub mod FiveServerFiles
pub mod FiveWants
pub mod FiveSettings
pub mod FiveServers
pub mod FiveDealing
pub mod FiveLoading
pub mod FiveWholes
