pub mod Accepting
pub mod Fetches
pub mod Naming
pub mod Taking
