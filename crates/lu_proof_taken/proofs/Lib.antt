pub mod Sends
pub mod Handed
pub mod Grants
pub mod Comes
pub mod Asked
pub mod Heeded
pub mod Stated
