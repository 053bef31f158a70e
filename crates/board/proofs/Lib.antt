pub mod Parts
pub mod Knowing
pub mod Counting
pub mod Vacancy
