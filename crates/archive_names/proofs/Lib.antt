pub mod Dates
pub mod Texts
