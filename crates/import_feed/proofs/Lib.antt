pub mod Lists
pub mod Turns
pub mod Ends
pub mod Sources
pub mod MendedSteps
pub mod Plain
