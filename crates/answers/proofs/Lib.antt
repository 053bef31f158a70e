pub mod Laid
pub mod Lengths
pub mod Memory
pub mod Sizes
pub mod Told
