pub mod PartLaws
pub mod Places
mod Worked
