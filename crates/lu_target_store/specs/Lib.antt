pub mod Taken
pub mod Commits
pub mod Stores
