pub mod Shown
pub mod Station
