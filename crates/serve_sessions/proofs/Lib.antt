pub mod Fronts
pub mod Joined
pub mod Listed
pub mod Ordered
pub mod Stages
pub mod Steps
