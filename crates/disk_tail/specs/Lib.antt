pub mod Tail
pub mod TailDisk
