pub mod Written
pub mod Waits
