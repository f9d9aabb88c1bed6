pub mod HeadParts
pub mod Splitting
pub mod RangeGrammar
pub mod TargetPaths
pub mod RangeInside
