mod Lists
mod Slots
mod Moments
pub mod Sorted
