-- What holds of the pages of a run, to be cited above. Nobody needs these to read a contract.
pub mod Pieces
pub mod Behind
pub mod Ranges
pub mod Sizes
pub mod Appending
