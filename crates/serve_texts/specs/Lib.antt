pub mod Response
pub mod Player
pub mod Status
pub mod Escape
pub mod Heard
pub mod Reply
pub mod Log
