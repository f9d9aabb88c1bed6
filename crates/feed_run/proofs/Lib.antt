pub mod Bounds
mod Coming
pub mod States
mod Staying
pub mod Kept
pub mod Turns
pub mod Ending
