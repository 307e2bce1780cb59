pub mod Errors
pub mod Faults
pub mod Memories
pub mod Texts
pub mod Values
