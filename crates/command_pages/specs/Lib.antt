pub mod Limits
pub mod Encoding
pub mod Fits
pub mod FrontRun
pub mod CommandPages
pub mod Laws
