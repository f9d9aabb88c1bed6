mod Ahead
mod Answered
mod Joined
mod Located
mod Pulled
mod Staying
