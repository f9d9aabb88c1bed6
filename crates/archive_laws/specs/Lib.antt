pub mod Committing
pub mod CommittingLaws
pub mod Cutting
pub mod Starting
