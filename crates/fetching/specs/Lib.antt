pub mod Fetching
pub mod Taking
