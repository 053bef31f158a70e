pub mod Book
pub mod Tables
pub mod Conditions
pub mod Departures
