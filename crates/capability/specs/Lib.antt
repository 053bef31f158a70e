pub mod Numbers
pub mod Cases
pub mod Labels
pub mod Refusals
