pub mod Places
pub mod Newest
pub mod Orders
pub mod Maps
pub mod Closes
pub mod Lists
