-- The laws, each a condition on a single line.
pub mod Messages
pub mod Locks
pub mod Silent
pub mod Acts
pub mod Recovery
pub mod History
pub mod Glimpse
pub mod SoFar
