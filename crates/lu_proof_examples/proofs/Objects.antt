-- Stories of objects, each allowed by the theory of bytes.
pub mod Words
pub mod Beginnings
pub mod Checks
pub mod WriteThenRead
pub mod Glimpse
pub mod ExpiredHolder
pub mod StripedFile
pub mod SawLost
