pub mod Quiet
pub mod Unfailed
pub use Rattle.lu_proof_lawful.specs.Fits
pub use Rattle.lu_proof_lawful.specs.Covered.TargetCloses
