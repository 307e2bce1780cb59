pub mod Codes
pub mod Refusals
pub mod Forms
pub mod Asked
pub mod Outcomes
pub mod Judged
pub use Rattle.lu_core.specs.Played
