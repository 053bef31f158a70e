pub mod View
pub mod Questions
