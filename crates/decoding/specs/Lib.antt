pub mod Bytes
pub mod Operation
pub mod Machine
pub mod Calls
pub mod Script
