pub mod Among
pub mod Name
pub mod Plan
