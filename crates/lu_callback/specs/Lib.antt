pub mod Callbacks
pub mod Filed
