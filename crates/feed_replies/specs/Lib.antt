pub mod Reply
pub mod FeedFault
pub mod RunFault
