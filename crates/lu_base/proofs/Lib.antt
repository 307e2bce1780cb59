pub mod Digits
pub mod KnownBytes
pub mod Octal
pub mod Outcomes
pub mod Paths
