pub mod Targets
pub mod Clients
pub mod Runs
pub mod Objects
