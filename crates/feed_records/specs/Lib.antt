pub mod Record
pub mod Tail
pub mod Fits
pub mod Writing
pub mod Laws
