pub mod Readings
pub mod Shown
pub mod Steps
pub mod Tables
pub mod Told
pub mod Waits
