pub mod ModeLaws
pub mod OverlapLaws
pub mod ConflictLaws
pub mod GrowthLaws
mod Worked
