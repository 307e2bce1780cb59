-- What each line of a past is in the story of one object.
pub mod Lives
pub mod Locks
pub mod Requests
pub mod Calls
pub mod Messages
pub mod Closes
pub mod Stories
