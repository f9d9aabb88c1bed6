pub mod Shown
pub mod Spans
