pub mod Names
pub mod Locks
pub mod Held
pub mod Kept
