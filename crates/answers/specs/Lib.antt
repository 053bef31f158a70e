pub mod Bytes
pub mod Encode
pub mod Shown
pub mod Size
