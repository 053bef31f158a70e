pub mod View
pub mod Hints
pub mod Look
pub mod Promises
pub mod FirstUse
