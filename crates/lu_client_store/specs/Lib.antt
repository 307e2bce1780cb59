pub mod Bounds
pub mod Counting
pub mod Pages
pub mod Runs
pub mod Stored
pub mod WriteBacks
