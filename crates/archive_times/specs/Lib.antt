pub mod Times
pub mod Reading
pub mod Asked
pub mod Numbers
