pub mod Archive
pub mod Showing
pub mod History
pub mod Accounted
pub mod Starting
pub mod Leading
pub mod Ending
