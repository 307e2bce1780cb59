pub mod Orders
pub mod Only
pub mod Found
