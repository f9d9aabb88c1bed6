-- What holds of sessions in a list, to be cited above. Nobody needs these to read a contract.
pub mod Found
