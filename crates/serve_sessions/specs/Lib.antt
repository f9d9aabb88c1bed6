pub mod Indexing
pub mod Sessions
pub mod Serving
pub mod Joining
pub mod Laws
