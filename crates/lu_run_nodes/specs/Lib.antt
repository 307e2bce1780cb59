pub mod States
pub mod Faults
pub mod Shown
pub mod Turns
pub mod Foreseen
pub mod Disks
pub use Rattle.lu_client.specs.Comings
pub use Rattle.lu_client.specs.Ranges
