pub mod Feed
pub mod Making
pub mod MakingFault
pub mod Mending
pub mod Turn
pub mod Source
