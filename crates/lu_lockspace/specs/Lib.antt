pub mod Spaces
pub mod Entries
pub mod Seats
pub mod Ending
pub mod Guarded
pub mod Notes
