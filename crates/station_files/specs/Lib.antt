pub mod Lending
pub mod Named
pub mod Places
pub mod Moving
pub mod Seat
