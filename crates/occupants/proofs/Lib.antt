pub mod Least
pub mod Seen
pub mod Stages
pub mod Questions
