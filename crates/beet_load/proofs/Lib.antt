pub mod Farming
pub mod SettingSteps
pub mod Summing
pub mod FewBidders
pub mod ServerSteps
pub mod Inputs
pub mod Cuts
pub mod KeptFarmers
