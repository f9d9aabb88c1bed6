pub mod Progress
pub mod LacingValues
