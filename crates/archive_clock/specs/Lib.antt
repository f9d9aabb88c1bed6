pub mod Asked
pub mod Span
pub mod Told
