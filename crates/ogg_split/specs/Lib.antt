pub mod SplitFault
pub mod Asked
pub mod Copying
pub mod CopyingLaws
pub mod Salvage
pub mod Unfinished
pub mod LinkParts
