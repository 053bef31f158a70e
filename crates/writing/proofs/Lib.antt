pub mod Opening
pub mod Gathering
pub mod Others
pub mod Reasons
pub mod Trying
