-- Turns of targets.
pub mod Words
pub mod Worked
pub mod Recovering
pub mod ByHand
pub mod FailingDisk
