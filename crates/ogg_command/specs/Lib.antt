pub mod Refusal
pub mod Command
pub mod Packets
