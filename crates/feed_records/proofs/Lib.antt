pub mod SizeFacts
pub mod FitsFacts
pub mod WritingFacts
