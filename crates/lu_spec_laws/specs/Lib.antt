pub mod Words
pub mod Holds
pub mod Laws
pub mod Lawful
pub mod Order
pub mod Orderly
