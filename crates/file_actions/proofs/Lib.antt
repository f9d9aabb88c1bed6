pub mod Fronts
mod CutFronts
pub mod Passing
mod Salvaged
mod Walked
