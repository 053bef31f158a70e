pub mod Engine
pub mod View
pub mod Valid
pub mod Calls
