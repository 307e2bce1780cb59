-- Which runs the theorem covers, and the words in which preconditions speak of what a node knows.
pub mod TargetParts
pub mod TargetStates
pub mod TargetCloses
pub mod Deeds
pub mod Calls
pub mod Known
pub mod Makes
pub mod Imports
pub mod ClientStates
pub mod Heads
pub mod Runs
