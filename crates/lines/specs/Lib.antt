pub mod Cut
pub mod Held
pub mod Lines
