pub mod Digest
pub mod Lists
pub mod Sample
