pub mod Examples
pub mod Filling
pub mod Placing
pub mod Appending
pub mod BytesLeft
pub mod PageByPage
pub mod WholePage
