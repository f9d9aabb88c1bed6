pub mod Ahead
pub mod Ends
pub mod Folder
pub mod Prefix
pub mod Span
