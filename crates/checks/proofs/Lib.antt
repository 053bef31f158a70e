pub mod Table
pub mod Passing
