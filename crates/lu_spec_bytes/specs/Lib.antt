pub mod Maps
pub mod Runs
pub mod Changes
