pub mod Imports
pub mod Posts
pub mod Prints
pub mod Sending
pub mod Telling
pub mod Turns
pub mod Rounds
pub mod Goes
