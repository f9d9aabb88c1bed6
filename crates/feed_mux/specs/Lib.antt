pub mod Checking
pub mod Progress
pub mod Reached
