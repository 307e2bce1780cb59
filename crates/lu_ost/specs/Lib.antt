pub mod Shown
pub mod Stored
pub mod Lawful
pub mod Footprints
