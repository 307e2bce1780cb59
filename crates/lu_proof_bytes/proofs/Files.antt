-- The laws of files over these objects.
pub mod Stripes
pub mod File
pub mod Puts
pub mod Two
pub mod Striped
