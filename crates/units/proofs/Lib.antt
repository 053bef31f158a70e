pub mod Pending
pub mod Cases
pub mod OldestIs
