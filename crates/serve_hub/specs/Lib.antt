pub mod Exchanging
pub mod Images
pub mod Listening
pub mod Parts
pub mod Showing
pub mod Running
