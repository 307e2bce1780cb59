pub mod Scenes
pub mod States
pub mod Commands
pub mod Progress
pub mod Played
pub use Rattle.lu_proof_scenes.specs.Quiet
pub use Rattle.lu_run_nodes.specs.States as Nodes
pub use Rattle.lu_spec_run.specs.Limits
pub use Rattle.lu_spec_laws.specs.Lawful
