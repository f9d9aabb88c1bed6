pub mod Checked
pub mod Kept
pub mod KeptCommands
