pub mod Answering
pub mod Telling
pub mod Counting
pub mod CountingLaws
pub mod Laws
pub mod Refusing
pub mod Together
