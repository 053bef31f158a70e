pub mod Heard
pub mod Tell
