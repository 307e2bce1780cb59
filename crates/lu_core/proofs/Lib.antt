pub mod Asked
pub mod Answered
pub mod Waiting
pub mod Stated
pub mod Moves
pub mod Throwing
pub mod Running
pub mod Arrivals
mod Lines
mod Telling
mod Starting
mod Performing
mod Ending
pub use Rattle.lu_proof_scenes.proofs.Whichever as LawfulScenes
