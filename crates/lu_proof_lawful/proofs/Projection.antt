-- What the map from runs to stories of objects keeps, whatever the past.
pub mod Lives
pub mod Lookups
pub mod Ends
