pub mod Overwritten
pub mod InContents
