pub mod Requests
pub mod Sound
pub mod Numbers
pub mod Repeats
