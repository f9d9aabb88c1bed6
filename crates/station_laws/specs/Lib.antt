pub mod Calling
pub mod Patience
pub mod Recorded
pub mod Serving
pub mod Written
pub mod Waiting
