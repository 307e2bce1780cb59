pub mod Carried
pub mod Words
pub mod Fields
pub mod Concerns
pub mod Sent
pub mod Printed
pub mod Given
