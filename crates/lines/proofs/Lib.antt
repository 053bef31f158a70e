pub mod Cut
pub mod ClassAndSize
pub mod Pieces
pub mod Names
pub mod Parsed
pub mod Stands
pub mod Lines
