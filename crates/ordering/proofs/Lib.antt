pub mod Ahead
pub mod Turned
pub mod Placed
pub mod Orderly
pub mod Cycled
pub mod Ordering
