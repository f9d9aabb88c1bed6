pub mod Failures
pub mod Laws
pub mod PageReaderFault
pub mod Reader
pub mod Room
