-- The laws of one object.
pub mod Numbers
pub mod Locks
pub mod Spot
pub mod Kept
pub mod Patches
pub mod Facts
pub mod Ends
pub mod Views
pub mod Narrow
pub mod World
pub mod Origins
pub mod Glimpse
pub mod Rows
