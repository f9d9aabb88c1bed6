pub mod Finishing
pub mod Ended
pub mod Ends
pub mod FinishFault
