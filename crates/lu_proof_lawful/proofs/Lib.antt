pub mod Preconditions
pub mod Invariants
pub mod Laws
pub mod Projection
pub mod Refinement
pub mod Coming
pub mod Failing
