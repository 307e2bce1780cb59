pub mod Lookups
pub mod Removal
pub mod Footprints
pub mod Sound
