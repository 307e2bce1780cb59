pub mod Carried
pub mod Deeds
pub mod Limited
pub mod Shown
pub mod Tables
