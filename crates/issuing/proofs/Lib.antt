pub mod Looking
pub mod Moving
pub mod Choosing
