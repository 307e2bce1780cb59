pub mod Taken
pub mod Heeding
