pub mod Modes
pub mod Overlap
pub mod Conflict
pub mod Growth
