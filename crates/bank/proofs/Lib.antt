pub mod Steps
pub mod Built
