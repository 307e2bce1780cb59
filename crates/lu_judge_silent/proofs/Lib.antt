pub mod Begins
pub mod Fresh
pub mod Lives
pub mod Lines
pub mod Moves
pub mod Questions
pub mod Waiting
pub mod Words
