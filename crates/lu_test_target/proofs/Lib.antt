pub mod StoreDisks
pub mod More
pub mod Told
