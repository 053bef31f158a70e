pub mod Issues
pub mod Steps
