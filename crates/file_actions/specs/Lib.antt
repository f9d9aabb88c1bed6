pub mod Checks
pub mod Lines
pub mod CutLines
pub mod Times
pub mod Copies
pub mod Salvage
pub mod Indexed
