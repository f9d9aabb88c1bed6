pub mod Lists
pub mod Spellings
pub mod PayloadFacts
pub mod Skipping
pub mod Built
pub mod HeadFacts
pub mod RoomFacts
pub mod FeedFacts
