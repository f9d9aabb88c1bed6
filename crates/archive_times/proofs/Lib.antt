pub mod Ends
pub mod Places
pub mod Readings
pub mod Texts
