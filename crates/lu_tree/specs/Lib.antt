pub mod Walks
pub mod State
pub mod Ends
pub mod Rows
pub mod Lives
