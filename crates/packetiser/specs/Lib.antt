pub mod Run
pub mod Place
pub mod RunPages
pub mod PageSpace
pub mod Laws
