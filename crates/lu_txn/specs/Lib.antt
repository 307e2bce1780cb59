pub mod Slots
pub mod Logs
pub mod Buckets
pub mod Indexes
pub mod Journals
pub mod Commits
pub mod Loads
