pub mod FiveMasks
pub mod FiveWorlds
pub mod FiveDisagreement
pub mod PairsMoved
pub mod FiveWanted
