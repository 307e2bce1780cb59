pub mod Disks
pub mod Kept
pub mod Told
