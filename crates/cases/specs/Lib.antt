pub mod Table
pub mod W
