pub mod LotMaps
