pub mod Filed
pub mod Firsts
pub mod Pages
pub mod Searches
pub mod Asking
pub mod Steps
