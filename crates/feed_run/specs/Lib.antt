pub mod Ahead
pub mod Laws
pub mod Run
