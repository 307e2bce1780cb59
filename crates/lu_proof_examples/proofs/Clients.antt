-- Turns of clients.
pub mod Words
pub mod Names
pub mod Bytes
pub mod Recovery
pub mod Lives
pub mod Forgets
