pub mod Meets
pub mod Guards
pub mod Places
