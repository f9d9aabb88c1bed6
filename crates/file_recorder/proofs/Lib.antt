pub mod Answered
pub mod Growing
pub mod Lasting
pub mod Lengths
pub mod Opened
pub mod Passed
pub mod Refused
mod Reopened
mod Sealed
mod Small
pub mod Stepping
pub mod Walked
pub mod Bytes
mod EndsInTurn
pub mod Steps
