pub mod View
pub mod Lent
