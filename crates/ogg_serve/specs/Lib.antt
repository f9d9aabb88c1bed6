pub mod Feeding
pub mod FileHistory
pub mod Keeping
pub mod Life
pub mod Pieces
pub mod Serving
pub mod Steps
