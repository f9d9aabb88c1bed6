pub mod RunOn
pub mod Turns
pub mod Pushed
pub mod Pushes
pub mod Kept
pub mod Stepped
