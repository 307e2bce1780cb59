pub mod Lists
pub mod Keyed
pub mod Waits
pub mod Coherence
