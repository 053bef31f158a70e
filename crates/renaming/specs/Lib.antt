pub mod Recording
pub mod Renaming
pub mod Sample
pub mod WrongEngines
