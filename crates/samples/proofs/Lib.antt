mod Tests
pub mod Cells
pub mod Sampled
