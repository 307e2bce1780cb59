pub mod Cuts
pub mod Looked
pub mod Either
pub mod Offsets
pub mod Pages
