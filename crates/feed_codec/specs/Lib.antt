pub mod RecordKind
pub mod Feed
pub mod Reading
pub mod Room
pub mod Payload
pub mod PayloadParts
pub mod Building
