-- A turn of a target that a failing call to the disk breaks off: the trace up to there is lawful.
pub mod BreakingPoint
pub mod Lost
pub mod ActsWhole
pub mod Apart
pub mod Broken
pub mod Turns
