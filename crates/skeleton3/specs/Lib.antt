pub mod Sizes
pub mod SkeletonFault
pub mod Fields
pub mod Fishead
pub mod Fisbone
pub mod FisboneLaws
