-- What holds of long division, of bits as numbers and of words, to be cited above. Nobody needs these to read a
-- contract.
pub mod Division
pub mod BitNumbers
pub mod ByteStep
pub mod Words
