pub mod Vectors
pub mod Room
pub mod Step
pub mod InRoom
pub mod Flags
pub mod Walking
