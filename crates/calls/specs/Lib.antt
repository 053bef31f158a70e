pub mod Play
pub mod Tally
pub mod Steps
