pub mod Crash
pub mod Cutting
pub mod Ends
pub mod Kept
pub mod Moment
pub mod Passing
pub mod Seal
pub mod Staged
