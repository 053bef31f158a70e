pub mod View
pub mod Pool
pub mod Promises
