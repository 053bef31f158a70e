pub mod Stands
pub mod Parts
pub mod Operation
pub mod Machine
pub mod Groups
pub mod Calls
pub mod Encoding
pub mod Refused
