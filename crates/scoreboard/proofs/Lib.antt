pub mod Fresh
pub mod Stopping
pub mod Capacity
