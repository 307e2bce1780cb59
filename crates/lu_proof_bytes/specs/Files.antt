-- Files in stripes over these objects, through layouts that may differ from call to call.
pub mod Layouts
pub mod File
pub mod Puts
