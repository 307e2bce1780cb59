pub mod Contents
pub mod Acts
pub mod Takes
pub mod Serving
pub mod Names
pub mod Objects
pub mod Covered
pub mod Removal
