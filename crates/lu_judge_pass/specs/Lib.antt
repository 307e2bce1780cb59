pub mod Firsts
pub mod Ledgers
pub mod Places
pub mod Tables
