pub mod Names
pub mod FieldFacts
pub mod MediaFacts
pub mod FisheadFacts
pub mod FisboneFacts
mod Examples
pub mod LineFacts
pub mod WrittenFields
