pub mod Ended
pub mod Lines
