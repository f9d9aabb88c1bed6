pub mod HubFault
pub mod Hub
pub mod Run
pub mod Sound
pub mod Calls
pub mod Places
pub mod Own
