pub mod Read
pub mod Storms
