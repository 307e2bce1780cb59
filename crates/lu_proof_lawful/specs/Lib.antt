pub mod Covered
pub mod Projection
pub mod Fits
pub mod Everywhere
pub mod Coming
pub mod Failing
pub use Rattle.lu_spec_laws.specs.Lawful
