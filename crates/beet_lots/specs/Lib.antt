pub mod LotEvents
pub mod LotWorlds
pub mod LotRows
