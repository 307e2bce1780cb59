-- Whole scenarios, and that what they come to is lawful.
pub mod Words
pub mod Names
pub mod Flying
pub mod Locks
pub mod Lives
pub mod AbsentAndGap
pub mod Writes
pub mod FailingDisk
pub mod Keeping
pub mod Kept
pub mod KeptWrites
pub mod Fits
pub mod Unfit
