pub mod Joins
mod Worked
