pub mod Acts
pub mod Arrivals
pub mod Asked
pub mod Guarded
pub mod Lists
pub mod Orders
pub mod Queues
pub mod Shown
