pub mod Parts
pub mod Records
pub mod Calls
pub mod Limits
pub mod Encoding
