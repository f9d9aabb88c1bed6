pub mod Fault
pub mod Mend
