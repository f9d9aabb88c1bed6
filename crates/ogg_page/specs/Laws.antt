-- Why the laws of PageLaws, ReadingLaws and PagesLaws hold. Nobody needs these to read a contract.
pub mod Prefixes
pub mod NumberBytes
pub mod ReadAgain
pub mod PageBytes
pub mod Sight
pub mod Walk
pub mod Found
pub mod HeadBytes
pub mod Headers
pub mod Halves
