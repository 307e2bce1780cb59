pub mod Raid0
pub mod Sound
pub mod Slots
