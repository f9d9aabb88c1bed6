pub mod Wishes
pub mod Replies
pub mod Heads
pub mod Bodies
pub mod Hearing
pub mod Fetching
pub mod Moments
pub mod Meetings
