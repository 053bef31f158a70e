pub mod Shown
pub mod Labels
