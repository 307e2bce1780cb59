pub mod Beginnings
pub mod Lives
pub mod Plays
