mod HeldBytes
pub mod Groups
pub mod Walks
