pub mod Foreign
pub mod Opening
pub mod Tail
pub mod TailLine
pub mod Searching
pub mod Telling
