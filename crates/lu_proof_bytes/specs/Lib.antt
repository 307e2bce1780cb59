pub mod Object
pub mod Objects
pub mod Files
