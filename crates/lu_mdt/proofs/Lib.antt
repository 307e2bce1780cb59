mod Trimmed
mod Footprints
mod Removal
