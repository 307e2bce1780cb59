pub mod Tags
pub mod SeenNumbers
pub mod Replays
pub mod Soundness
