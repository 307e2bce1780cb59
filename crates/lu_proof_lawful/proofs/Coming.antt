-- What a covered run asks of objects, and each size that comes with a lock, lies in a file; and a turn of a client begins one life
-- at most.
pub mod Asked
pub mod Objects
pub mod Sizes
pub mod Lines
pub mod Lives
