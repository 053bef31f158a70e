pub mod Optional
pub mod Lists
pub mod Numbers
pub mod Texts
pub mod Means
