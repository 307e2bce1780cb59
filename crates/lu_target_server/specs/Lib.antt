pub mod Faults
pub mod Requests
pub mod Servers
pub mod Answering
pub mod Commits
pub mod Objects
pub mod Passes
pub mod Middles
pub mod Releases
pub mod Joins
pub mod Givers
pub mod Recovering
pub mod Passing
pub mod Closing
pub mod Booting
pub mod Acting
pub mod Numbers
pub use Rattle.lu_target_redo.specs.Shown
pub use Rattle.lu_target_invariant.specs.Sound
pub use Rattle.lu_target_locks.specs.Servers as LockServers
pub use Rattle.lu_target_store.specs.Commits as StoreCommits
pub use Rattle.lu_target_store.specs.Stores
pub use Rattle.lu_target_refines.specs.Journals
pub use Rattle.lu_target_refines.specs.Lives
pub use Rattle.lu_target_refines.specs.Unread
pub use Rattle.lu_window.specs.States as Windows
