pub mod Firsts
pub mod Texts
pub mod Names
pub mod Scans
pub mod FirstWord
pub mod Alike
