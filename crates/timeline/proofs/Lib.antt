pub mod Memory
pub mod Slots
pub mod Rows
pub mod Steps
pub mod Grows
pub mod Shows
