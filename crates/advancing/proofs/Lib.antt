pub mod Recorded
pub mod Advancing
pub mod Working
