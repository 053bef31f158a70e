pub mod Laid
pub mod Lengths
pub mod Cells
pub mod Rows
pub mod Parts
