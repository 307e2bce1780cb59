pub mod Buckets
pub mod Indexes
pub mod Logs
pub mod Contents
pub mod Events
pub mod Names
pub mod Formed
pub mod Seen
