pub mod Codecs
pub mod Commands
pub mod Headers
pub mod Laws
