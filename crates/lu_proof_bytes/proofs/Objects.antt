-- The laws of many objects, each by its own story.
pub mod Base
pub mod Tied
pub mod Mail
pub mod TiedStays
pub mod Only
pub mod Laws
pub mod Sample
pub mod Pairs
pub mod Rows
