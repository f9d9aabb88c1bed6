pub mod Definite
pub mod InRoom
pub mod Run
mod Passed
