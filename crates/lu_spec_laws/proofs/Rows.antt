-- Worked traces of whole runs that the laws allow.
pub mod Names
pub mod Bytes
pub mod Crashes
pub mod Lives
