pub mod Files
pub mod Limits
pub mod Names
pub mod Shown
