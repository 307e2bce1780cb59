pub mod Numbering
pub mod Posts
pub mod InTable
pub mod Steps
