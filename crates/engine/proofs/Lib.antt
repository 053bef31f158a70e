pub mod Does
pub mod Fits
pub mod Legends
pub mod Naming
pub mod Dropping
pub mod Boards
