pub mod View
pub mod Valid
pub mod Calls
pub mod Control
