-- Wrong traces, each named after what is wrong with it, and beside them lawful ones that are near to them.
pub mod Messages
pub mod HeldLocks
pub mod GrantedLocks
pub mod Silent
pub mod Acts
pub mod Answers
pub mod Pieces
pub mod Glimpses
pub mod Recovering
pub mod Numbers
pub mod Windows
pub mod AfterClose
pub mod Evictions
pub mod Order
