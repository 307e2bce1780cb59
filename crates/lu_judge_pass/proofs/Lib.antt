pub mod Asked
pub mod Order
pub mod Placed
pub mod Presents
pub mod Rests
pub mod Shown
pub mod Strangers
pub mod Wholes
