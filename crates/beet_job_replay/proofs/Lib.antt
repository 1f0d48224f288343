mod LotsBegun
mod LotPlays
mod Replays
