pub mod Below
pub mod Fields
pub mod Made
pub mod Places
pub mod Rows
pub mod Sizes
pub mod Units
