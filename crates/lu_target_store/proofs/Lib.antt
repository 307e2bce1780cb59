pub mod Without
pub mod Showing
pub mod Lasts
pub mod Moves
pub mod Begins
pub mod Closing
pub mod Keeping
pub mod Listed
