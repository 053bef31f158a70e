pub mod Chars
pub mod Same
pub mod View
pub mod Build
pub mod FirstWord
