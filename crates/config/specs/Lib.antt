pub mod View
pub mod Checks
pub mod Kept
