pub mod Handed
pub mod Replays
