pub mod Values
pub mod Lines
pub mod Escaping
pub mod Replying
pub mod Lining
