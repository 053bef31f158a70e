pub mod Reached
pub mod Demand1
