pub mod Places
pub mod Numbers
pub mod Texts
pub mod Sizes
pub mod Script
