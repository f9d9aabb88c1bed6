-- Laws of records that are answered in turn. Nobody needs these to read a contract.
pub mod InTurn
