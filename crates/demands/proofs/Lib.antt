pub mod Demand1
pub mod Views
pub mod Witness
pub mod Reached
