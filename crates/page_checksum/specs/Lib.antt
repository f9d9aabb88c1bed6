pub mod Checksum
pub mod Pending
pub mod Laws
