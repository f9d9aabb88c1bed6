-- What holds of the pages of a command, to be cited above. Nobody needs these to read a contract.
pub mod Runs
pub mod Headers
pub mod Short
pub mod Sizes
