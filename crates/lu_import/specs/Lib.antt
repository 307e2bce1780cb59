pub mod Objects
pub mod InFlights
pub mod Kept
pub mod Adding
pub mod Recovery
pub mod Imports
