pub mod Kinds
pub mod Line
pub mod Client
pub mod Patience
pub mod Clients
