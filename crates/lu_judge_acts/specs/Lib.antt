pub mod Answers
pub mod Flying
pub mod Shown
pub mod Tables
