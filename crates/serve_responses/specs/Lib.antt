pub mod Response
pub mod Framing
