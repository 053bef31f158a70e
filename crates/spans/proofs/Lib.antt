pub mod Sums
pub mod Few
pub mod Cells
pub mod Single
pub mod Short
pub mod Spans
