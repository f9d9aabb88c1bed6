pub mod Answering
pub mod Extent
pub mod Sending
pub mod Walking
