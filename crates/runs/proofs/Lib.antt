pub mod Names
pub mod Tracks
