pub mod Added
pub mod Origins
pub mod Preflights
