pub mod TableRule
pub mod Vectors
pub mod Slices
pub mod Tables
pub mod Echoes
pub mod Pendings
pub mod Taken
