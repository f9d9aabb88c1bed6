pub mod Cutting
pub mod Putting
pub mod Reading
pub mod Writing
