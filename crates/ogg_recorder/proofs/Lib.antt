pub mod Ended
pub mod World
